-- An item, and the same up to where a processor goes out by it: what a play comes to then, before that processor is told anything.
use Rattle.std.specs.Prelude.{◌≡◌, ℕ, List, [], ◌∷◌, ◌++◌, Option, None, Some, Result, Ok, Err}
use Rattle.std.specs.Option.{option_and_then, option_map, option_map_or}
use Rattle.core_machine.specs.Panics.{panic_of}
use Rattle.core_machine.specs.Serving.{line_of}
use Rattle.core_machine.specs.declared.smc.Told.{Told}
use Rattle.kernel_model.specs.Application.{Booted}
use Rattle.kernel_model.specs.Kernel.{Visit}
use Rattle.ns_ram.specs.Lane.{bytes_at}
use Rattle.play_model.specs.Line.{Mem}
use Rattle.play_model.specs.Play.{Play, enters, lane_of, leaves, with_line, with_writes}
use Rattle.trace_text.specs.declared.item.Item.{Item}
use Rattle.trace_text.specs.declared.item.Item.TheVariants as item
use Rattle.trace_player.specs.Kinds.{Kind, play_in}
use Rattle.trace_player.specs.Playing.{Prints}
use Rattle.trace_player.specs.Position.{Position, StandsAt, visit_at}
use Rattle.trace_player.specs.declared.exit.Exit.{Exit}
use Rattle.trace_player.specs.declared.player.Player.{Player}
use Rattle.word_parts.specs.declared.stop.Stop.{Stop}
use Rattle.word_parts.specs.declared.stop.Stop.TheVariants.{Full, Failed, Memory}

-- the play up to there
abbrev pub up_to_exit : Booted → Position → Item → Option Play
up_to_exit boot at (item.Smc cpu steps regs) = enters boot at.play (visit_at at cpu steps regs)
up_to_exit boot at (item.Enter cpu steps regs) = enters boot at.play (visit_at at cpu steps regs)
up_to_exit boot at (item.Leave cpu) = Some at.play
up_to_exit boot at (item.Write cpu addr bytes) =
    Some (with_writes cpu (record { addr = addr; bytes = bytes } ∷ []) at.play)
up_to_exit boot at (item.Show cpu addr len) = Some (with_line (Mem cpu addr (bytes_at (lane_of at.play cpu) addr len)) at.play)

-- the processor that goes out by it, where one does
abbrev pub goes_out_by : Item → Option ℕ
goes_out_by (item.Smc cpu steps regs) = Some cpu
goes_out_by (item.Enter cpu steps regs) = None
goes_out_by (item.Leave cpu) = Some cpu
goes_out_by (item.Write cpu addr bytes) = None
goes_out_by (item.Show cpu addr len) = None

-- the panic in which the call has ended of that processor, if it did: of the kernel as it goes out
abbrev pub panic_at_exit : Booted → Position → Item → Option ℕ
panic_at_exit boot at i =
    option_and_then (λ (cpu : ℕ). option_and_then (λ (inside : Play). panic_of inside.kernel cpu) (up_to_exit boot at i)) (goes_out_by i)

-- the exit of a processor, where one goes out, unless an entry was refused
abbrev pub exit_by : {P : Type 0} → Kind P → Option ℕ → P → Option P
exit_by kind None before = Some before
exit_by kind (Some cpu) before =
    option_map_or (λ more. Some before) (play_in kind before).refused (kind.goes_out cpu before)

-- the play of a kind after an item: what comes up to its exit, and then that
abbrev pub after_item_of : {P : Type 0} → Kind P → Item → P → Option P
after_item_of kind i before =
    option_and_then (exit_by kind (goes_out_by i))
    (option_map (kind.over before) (up_to_exit kind.boot (kind.position before) i))

-- ---- an entry, an exit

-- an entry, which prints nothing; at a refused one, and at want of memory, the player is where it was
abbrev pub ComesIn : Booted → Position → Visit → Result (Unit {0}) Stop → Player → Type 0
ComesIn boot at visit (Ok done) player =
    (next : Play) × (enters boot at.play visit ≡ Some next) × StandsAt boot (record at { play = next }) player
ComesIn boot at visit (Err Full) player =
    (more : ℕ) × (enters boot at.play visit ≡ Some (record at.play { refused = Some more })) × StandsAt boot at player
ComesIn boot at visit (Err Failed) player = ⊥
ComesIn boot at visit (Err Memory) player = StandsAt boot at player

-- an exit with these registers, the kernel's answer
pub record GoesOut (boot : Booted) (at : Position) (told : Told) (player : Player) : Type 0 where
  pub next : Play
  pub leaves : leaves boot told.cpu at.play ≡ Some next
  pub line : next.lines ≡ at.play.lines ++ line_of told ∷ []
  pub stands : StandsAt boot (record at { play = next }) player

-- ---- an item

-- nobody goes out by it
pub record HasNoExit (boot : Booted) (at : Position) (i : Item) (player : Player) (old new : List ℕ) : Type 0 where
  pub no_exit : goes_out_by i ≡ None
  pub next : Play
  pub comes : up_to_exit boot at i ≡ Some next
  pub stands : StandsAt boot (record at { play = next }) player
  pub prints : Prints at.play next old new

-- a processor has gone out by it, behind its entry if that is a part of the item
pub record HasExit (boot : Booted) (at : Position) (i : Item) (exit : Exit) (player : Player) (old new : List ℕ) : Type 0 where
  pub cpu : goes_out_by i ≡ Some exit.answer.cpu
  pub between : Play
  pub comes : up_to_exit boot at i ≡ Some between
  pub goes_on : between.refused ≡ None
  pub lines : between.lines ≡ at.play.lines
  pub goes : GoesOut boot (record at { play = between }) exit.answer player
  pub panic : exit.panic ≡ panic_of between.kernel exit.answer.cpu
  pub prints : new ≡ old

-- its entry is refused
pub record IsNotBegun (boot : Booted) (at : Position) (i : Item) (player : Player) (old new : List ℕ) : Type 0 where
  pub more : ℕ
  pub comes : up_to_exit boot at i ≡ Some (record at.play { refused = Some more })
  pub stands : StandsAt boot at player
  pub prints : new ≡ old

-- by what came of it; of want of memory nothing is said
abbrev pub Begins : Booted → Position → Item → Result (Option Exit) Stop → Player → List ℕ → List ℕ → Type 0
Begins boot at i (Ok None) player old new = HasNoExit boot at i player old new
Begins boot at i (Ok (Some exit)) player old new = HasExit boot at i exit player old new
Begins boot at i (Err Full) player old new = IsNotBegun boot at i player old new
Begins boot at i (Err Failed) player old new = ⊥
Begins boot at i (Err Memory) player old new = Unit {0}
