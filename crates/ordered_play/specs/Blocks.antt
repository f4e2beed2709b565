-- What is printed of a play in an order: a block for each processor. This project's own.
use Rattle.std.specs.Prelude.{ℕ, ◌+◌, Bool, true, false, List, [], ◌∷◌, ◌++◌, Option, Some, None, codes, if◌then◌else◌}
use Rattle.std.specs.Fmt.{decimal}
use Rattle.std.specs.List.{flat_map, list_all, list_any}
use Rattle.std.specs.Option.{is_some, option_and_then, option_map_or}
use Rattle.kernel_model.specs.Application.{Native}
use Rattle.play_model.specs.Line.{mem_line, register_text}
use Rattle.ta_isa.specs.declared.boot.Boot.{Boot}
use Rattle.trace_text.specs.declared.trace.Trace.{Trace}
use Rattle.ordered_play.specs.Act.{Act}
use Rattle.ordered_play.specs.Ordered.{OrderedPlay, played_in}
use Rattle.ordered_play.specs.Seat.{PlacedLine, Refusal, Seat, Told, Shown}

-- `ret CPU A0 .. A7 at ENTRY EXIT`, with the places in decimal
abbrev pub placed_ret_line : ℕ → List ℕ → ℕ → ℕ → List ℕ
placed_ret_line cpu regs entry_at exit_at =
    codes "ret " ++ decimal cpu ++ flat_map register_text regs ++ codes " at " ++ decimal entry_at ++ 32 ∷ []
    ++ decimal exit_at ++ 10 ∷ []

-- the text of a processor's line
abbrev pub text_of_placed : ℕ → PlacedLine → List ℕ
text_of_placed cpu (Told regs entry_at exit_at) = placed_ret_line cpu regs entry_at exit_at
text_of_placed cpu (Shown addr bytes) = mem_line cpu addr bytes

-- `full COPIED MORE`, both in decimal
abbrev pub full_line : Refusal → List ℕ
full_line refusal = codes "full " ++ decimal refusal.copied ++ 32 ∷ [] ++ decimal refusal.more ++ 10 ∷ []

-- the block of a processor: its number, its lines, and its refused entry
abbrev pub block_of : ℕ → Seat → List ℕ
block_of cpu seat =
    codes "cpu " ++ decimal cpu ++ 10 ∷ [] ++ flat_map (text_of_placed cpu) seat.lines
    ++ option_map_or full_line seat.refused []

-- the blocks of these processors, which are numbered from this number on
abbrev pub blocks_from : ℕ → List Seat → List ℕ
blocks_from cpu [] = []
blocks_from cpu (seat ∷ seats) = block_of cpu seat ++ blocks_from (cpu + 1) seats

-- the blocks of a play
abbrev pub blocks_of : OrderedPlay → List ℕ
blocks_of play = blocks_from 0 play.seats

-- there are no acts
abbrev pub is_none : List Act → Bool
is_none [] = true
is_none (act ∷ acts) = false

-- an entry of some processor was refused
abbrev pub has_refused : OrderedPlay → Bool
has_refused play = list_any (λ (seat : Seat). is_some seat.refused) play.seats

-- no processor has anything more to do: each item was taken that doesn't stand behind a refused entry of its processor
abbrev pub has_ended : OrderedPlay → Bool
has_ended play = list_all (λ (seat : Seat). is_none seat.acts) play.seats

-- what is printed of a play that has ended
abbrev pub blocks_of_ended : OrderedPlay → Option (List ℕ)
blocks_of_ended play = if has_ended play then Some (blocks_of play) else None

-- what is printed of a trace with this boot, in an order that takes all its items; with no boot there is nothing to play
abbrev pub blocks_by : List Native → Trace → List ℕ → Option Boot → Option (List ℕ)
blocks_by natives trace order None = Some []
blocks_by natives trace order (Some boot) = option_and_then blocks_of_ended (played_in natives boot trace order)

-- the blocks of a trace beside built-in applications, in such an order
abbrev pub blocks_in : List Native → Trace → List ℕ → Option (List ℕ)
blocks_in natives trace order = blocks_by natives trace order trace.boot
