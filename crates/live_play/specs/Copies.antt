-- The copy of each processor's RAM that whoever writes the lines of a conversation and reads its answers can keep: the bytes of the
-- header, then those of each line `write`, and those of each line `wrote`. This project's own.
use Rattle.std.specs.Prelude.{◌≡◌, ℕ, List, [], ◌∷◌, ◌++◌, ◌&&◌, ◌||◌, Bool, true, false, if◌then◌else◌, replicate, slice_index_or, slice_set}
use Rattle.std.specs.List.{flat_map}
use Rattle.std.specs.Option.{option_map_or}
use Rattle.line_port.specs.History.{Input}
use Rattle.notify_text.specs.Rules.{NotifyFront, has_no_signal}
use Rattle.ns_ram.specs.Writes.{Write, lane_after}
use Rattle.play_model.specs.Line.{Line, Mem, Ret, text_of_line}
use Rattle.play_model.specs.Play.{filled}
use Rattle.ta_isa.specs.declared.boot.Boot.{Boot}
use Rattle.trace_text.specs.Limits.{has_no_item}
use Rattle.trace_text.specs.declared.item.Item.{Item}
use Rattle.trace_text.specs.declared.item.Item.TheVariants as item
use Rattle.live_play.specs.Answer.{Answer, Done, Platform, after_heard, answer, text_of_ending}
use Rattle.live_play.specs.Changes.{changes, text_of_changes}
use Rattle.live_play.specs.Panicking.{item_between, panic_between, panic_line}
use Rattle.live_play.specs.Showing.{ArePlayed, Position, first_position, lane_at, lanes_at, platform_at, position_after, position_behind, shown_to}
use Rattle.live_play.specs.ShowingLaws.{is_plain, answer_of_exit}
use Rattle.live_play.specs.State.{text_if}

-- ---- what is written

-- bytes in the RAM of a processor, each over those before it
pub record Wrote : Type 0 where
  pub cpu : ℕ
  pub writes : List Write

abbrev pub wrote : ℕ → List Write → Wrote
wrote cpu writes = record { cpu = cpu; writes = writes }

-- by a line that is heard: by `write` alone
abbrev pub wrote_by : Item → List Wrote
wrote_by (item.Smc cpu steps regs) = []
wrote_by (item.Enter cpu steps regs) = []
wrote_by (item.Leave cpu) = []
wrote_by (item.Write cpu addr bytes) = wrote cpu (record { addr = addr; bytes = bytes } ∷ []) ∷ []
wrote_by (item.Show cpu addr len) = []

-- what the lines `wrote` say that stand behind a line of an answer
abbrev pub wrote_behind : Platform → NotifyFront → NotifyFront → Line → List Wrote
wrote_behind on before after (Ret cpu regs) = wrote cpu (changes (lane_at on before cpu) (lane_at on after cpu)) ∷ []
wrote_behind on before after (Mem cpu addr bytes) = []

-- and all of an answer, where exits are watched
abbrev pub wrote_in : Platform → NotifyFront → NotifyFront → Answer → List Wrote
wrote_in on before after given = flat_map (wrote_behind on before after) given.lines

-- what those say that are said to this
abbrev pub wrote_to : Platform → Position → Input → List Wrote
wrote_to on here input =
    let there = platform_at on here.lines in
    let before = here.lines.told in
    if is_plain input && here.is_watching
    then wrote_in there before (after_heard there before input) (answer there before input)
    else []

-- their text
abbrev pub text_of_wrote : List Wrote → List ℕ
text_of_wrote all = flat_map (λ (some : Wrote). text_of_changes some.cpu some.writes) all

-- ---- the copy, by the processor's number

-- with this written to it
abbrev pub laid : List (List ℕ) → List Wrote → List (List ℕ)
laid copy [] = copy
laid copy (first ∷ more) =
    laid (slice_set copy first.cpu (lane_after (slice_index_or copy first.cpu []) first.writes)) more

-- no item and no signal stands among the lines
abbrev pub is_header : NotifyFront → Bool
is_header lines = has_no_item lines.trace.items && has_no_signal lines.signals

-- by the lines of a header: RAM as it is at first, with their bytes
abbrev pub copy_of_header : Platform → NotifyFront → List (List ℕ)
copy_of_header on lines =
    option_map_or (λ (boot : Boot). replicate boot.cpus (filled on.ram lines.trace.fills)) lines.trace.boot []

-- where those lines count behind these, and this was said to have been written
abbrev pub copy_between : Platform → NotifyFront → NotifyFront → List Wrote → List (List ℕ) → List (List ℕ)
copy_between on before after said copy =
    if is_header after
    then copy_of_header on after
    else laid copy (option_map_or wrote_by (item_between before after) [] ++ said)

-- behind a line, and what was said to it
abbrev pub copy_after : Platform → Position → Input → List (List ℕ) → List (List ℕ)
copy_after on here input copy =
    copy_between on here.lines.told (position_after on here input).lines.told (wrote_to on here input) copy

-- behind all of these
abbrev pub copy_behind : Platform → Position → List Input → List (List ℕ) → List (List ℕ)
copy_behind on here [] copy = copy
copy_behind on here (input ∷ inputs) copy =
    copy_behind on (position_after on here input) inputs (copy_after on here input copy)

-- ---- that it is RAM

abbrev pub has_no_return : List Line → Bool
has_no_return [] = true
has_no_return (Ret cpu regs ∷ lines) = false
has_no_return (Mem cpu addr bytes ∷ lines) = has_no_return lines

-- each exit is watched
abbrev pub watches : Platform → Position → List Input → Bool
watches on here [] = true
watches on here (input ∷ inputs) =
    (here.is_watching || has_no_return (answer (platform_at on here.lines) here.lines.told input).lines)
    && watches on (position_after on here input) inputs

pub record CopiesAreRam : Type 0 where
  -- what is said to have been written stands in the answer of an exit that is watched, behind its line and its panic
  pub said : (on : Platform) (here : Position) (input : Input) (cpu : ℕ) (regs : List ℕ) → is_plain input ≡ true →
      here.is_watching ≡ true → answer (platform_at on here.lines) here.lines.told input ≡ answer_of_exit cpu regs →
      shown_to on here input
      ≡ text_of_line (Ret cpu regs)
      ++ text_if panic_line (panic_between (platform_at on here.lines) here.lines.told (after_heard (platform_at on here.lines) here.lines.told input))
      ++ text_of_wrote (wrote_to on here input)
      ++ text_of_ending Done
  -- behind each part of a conversation in which each exit is watched, the copy is the RAM that the core sees
  pub same : (on : Platform) (inputs : List Input) → watches on first_position inputs ≡ true →
      ArePlayed on (position_behind on first_position inputs).lines →
      copy_behind on first_position inputs []
      ≡ lanes_at (platform_at on (position_behind on first_position inputs).lines) (position_behind on first_position inputs).lines.told
