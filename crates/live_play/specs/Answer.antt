-- What is answered to a line of a conversation, and which lines count behind it. The lines are those of a trace with signals,
-- each answered when it has come by what the play of the trace with it prints more than the play without it. This project's
-- own.
use Rattle.std.specs.Prelude.{ℕ, ◌^◌, List, [], ◌∷◌, ◌++◌, Bool, true, false, codes, drop, if◌then◌else◌, length, map, Option, IfSome, IsSome}
use Rattle.std.specs.Fmt.{decimal}
use Rattle.std.specs.List.{flat_map}
use Rattle.std.specs.Option.{option_and_then, option_map_or}
use Rattle.base.specs.Zeros.{zeros}
use Rattle.event_journal.specs.Journal.{copied_bytes}
use Rattle.kernel_model.specs.Application.{IsBooted, Native, booted}
use Rattle.line_port.specs.History.{Input}
use Rattle.line_port.specs.History as heard
use Rattle.notify_play.specs.NotifyPlay.{Drivers, NotifyPlay, notify_played_within}
use Rattle.notify_text.specs.Rules.{NotifyFront, after_line, line_rules, notify_trace_in}
use Rattle.play_model.specs.Line.{Line, text_of_line}
use Rattle.ta_isa.specs.declared.boot.Boot.{Boot}
use Rattle.trace_text.specs.Fault.{kind_word}
use Rattle.trace_text.specs.Limits.{first_broken}
use Rattle.trace_text.specs.declared.fault.BadKind.{BadKind}
use Rattle.trace_text.specs.declared.fault.BadKind.TheVariants as bad

-- ---- the platform of a conversation

pub record Platform : Type 0 where
  -- the applications and the drivers that are built in
  pub natives : List Native
  pub drivers : Drivers
  -- what each processor's RAM holds at first
  pub ram : List ℕ
  -- the most bytes that all entries read
  pub most_bytes : ℕ

-- RAM of zeros
abbrev pub platform_within : ℕ → List Native → Drivers → Platform
platform_within most_bytes natives drivers =
    record { natives = natives; drivers = drivers; ram = zeros 0x400000; most_bytes = most_bytes }

-- entries read as much as those of a trace may
abbrev pub platform : List Native → Drivers → Platform
platform natives drivers = platform_within (2 ^ 28) natives drivers

-- the UUIDs of the applications
abbrev pub uuids_in : Platform → List (List ℕ)
uuids_in on = map (λ (native : Native). native.0) on.natives

-- ---- the lines that count so far, as a trace with signals

-- their play, where there is a boot among them
abbrev pub play_at : Platform → NotifyFront → Option NotifyPlay
play_at on lines =
    option_and_then
    (λ (boot : Boot). notify_played_within on.most_bytes on.ram on.natives on.drivers boot (notify_trace_in lines))
    lines.trace.boot

-- what it has printed
abbrev pub printed_at : Platform → NotifyFront → List Line
printed_at on lines = option_map_or (λ (told : NotifyPlay). told.play.lines) (play_at on lines) []

-- where it refuses an entry: how many bytes that would have read
abbrev pub refused_at : Platform → NotifyFront → Option ℕ
refused_at on lines = option_and_then (λ (told : NotifyPlay). told.play.refused) (play_at on lines)

-- how many bytes its entries have read
abbrev pub copied_at : Platform → NotifyFront → ℕ
copied_at on lines = option_map_or (λ (told : NotifyPlay). copied_bytes told.play.history) (play_at on lines) 0

-- the first rule that a line breaks behind them
abbrev pub fault_at : Platform → NotifyFront → List ℕ → Option BadKind
fault_at on lines line = first_broken (line_rules (uuids_in on) lines true line)

-- ---- an answer

-- how an answer ends
pub data Ending : Type 0 where
  Done : Ending
  -- the line breaks this rule
  Bad : BadKind → Ending
  -- the line is longer than a line may be
  TooLong : Ending
  -- the line's entry is refused, where those before it have read so many bytes
  Full : (copied : ℕ) → Ending

-- the lines of an answer, and how it ends
pub record Answer : Type 0 where
  pub lines : List Line
  pub ending : Ending

-- an answer of its ending alone
abbrev pub without_lines : Ending → Answer
without_lines ending = record { lines = []; ending = ending }

-- to a line that keeps its rules, which leads from these lines to those
abbrev pub answer_between : Platform → NotifyFront → NotifyFront → Answer
answer_between on before after =
    option_map_or (λ more. without_lines (Full (copied_at on before)))
    (refused_at on after)
    (record { lines = drop (length (printed_at on before)) (printed_at on after); ending = Done })

-- to a line
abbrev pub answer_to_line : Platform → NotifyFront → List ℕ → Answer
answer_to_line on before line =
    option_map_or (λ kind. without_lines (Bad kind))
    (fault_at on before line)
    (answer_between on before (after_line before line))

-- to what was heard: a line that is too long is so also where the input ends within it, and one that is cut off is so whatever
-- its bytes
abbrev pub answer : Platform → NotifyFront → Input → Answer
answer on before (heard.Line line) = answer_to_line on before line
answer on before heard.Long = without_lines TooLong
answer on before heard.Cut = without_lines (Bad bad.Cut)

-- ---- which lines count behind it

abbrev pub is_done : Ending → Bool
is_done Done = true
is_done (Bad kind) = false
is_done TooLong = false
is_done (Full copied) = false

-- the lines with what was heard
abbrev pub with_heard : NotifyFront → Input → NotifyFront
with_heard before (heard.Line line) = after_line before line
with_heard before heard.Long = before
with_heard before heard.Cut = before

-- it counts exactly where its answer ends with `ok`
abbrev pub after_heard : Platform → NotifyFront → Input → NotifyFront
after_heard on before input =
    if is_done (answer on before input).ending then with_heard before input else before

-- ---- that there is a play

-- where a boot is among these lines, a core can be booted so, and they have a play
abbrev pub IsPlayed : Platform → NotifyFront → Type 0
IsPlayed on lines =
    IfSome lines.trace.boot (λ (boot : Boot). IsBooted (booted boot on.natives) × IsSome (play_at on lines))

-- ---- the text of an answer

-- `ok`, `bad KIND` or `full COPIED`, with the number in decimal
abbrev pub text_of_ending : Ending → List ℕ
text_of_ending Done = codes "ok" ++ 10 ∷ []
text_of_ending (Bad kind) = codes "bad " ++ kind_word kind ++ 10 ∷ []
text_of_ending TooLong = codes "bad long" ++ 10 ∷ []
text_of_ending (Full copied) = codes "full " ++ decimal copied ++ 10 ∷ []

abbrev pub text_of_answer : Answer → List ℕ
text_of_answer given = flat_map text_of_line given.lines ++ text_of_ending given.ending
