-- What holds of each conversation.
use Rattle.std.specs.Prelude.{◌≡◌, ℕ, ◌+◌, ◌<◌, List, [], ◌∷◌, ◌++◌, Bool, true, None, Some, filter, map}
use Rattle.std.specs.List.{AllZip, flat_map, list_all}
use Rattle.kernel_model.specs.Application.{IsBooted, Native, booted}
use Rattle.line_port.specs.History.{Input}
use Rattle.line_port.specs.History as heard
use Rattle.notify_play.specs.Laws.{IsNotifyPlay}
use Rattle.notify_play.specs.NotifyPlay.{Drivers, NotifyPlay}
use Rattle.notify_play.specs.Order.{HoldsSteps}
use Rattle.notify_play.specs.Text.{notify_text_of}
use Rattle.notify_text.specs.Grammar.{Leads, Spells, is_no_signal}
use Rattle.notify_text.specs.Rules.{NotifyFront, after_line, no_lines, notify_trace_in}
use Rattle.notify_text.specs.Steps.{steps_of}
use Rattle.play_model.specs.Line.{Line, text_of_line}
use Rattle.play_model.specs.Play.{played_within}
use Rattle.play_model.specs.Text.{text_of}
use Rattle.ta_isa.specs.declared.boot.Boot.{Boot}
use Rattle.trace_text.specs.Grammar as trace
use Rattle.trace_text.specs.Limits.{end_fault, trace_in}
use Rattle.trace_text.specs.declared.fault.BadKind.{BadKind}
use Rattle.trace_text.specs.declared.fault.BadKind.TheVariants as breaks
use Rattle.live_play.specs.Answer.{Answer, Bad, Full, Platform, TooLong, after_heard, answer, copied_at, fault_at, is_done, platform, play_at, refused_at, uuids_in, without_lines}
use Rattle.live_play.specs.Conversation.{after_all, answers}
use Rattle.live_play.specs.Returns.{AsksNothing, IsReturnOf, exits_in, returns_in}

-- the lines of all answers, in their order
abbrev pub printed_in : List Answer → List Line
printed_in given = flat_map (λ (a : Answer). a.lines) given

-- ---- bad lines and refusals

-- a line that breaks a rule is answered by the first one that it breaks; one whose entry is refused, by how many bytes were read
-- before it; and neither counts. Nor does what is no line
pub record RefusalsChangeNothing : Type 0 where
  pub bad : (on : Platform) (before : NotifyFront) (line : List ℕ) (kind : BadKind) → fault_at on before line ≡ Some kind →
      (answer on before (heard.Line line) ≡ without_lines (Bad kind)) × (after_heard on before (heard.Line line) ≡ before)
  pub full : (on : Platform) (before : NotifyFront) (line : List ℕ) (more : ℕ) → fault_at on before line ≡ None →
      refused_at on (after_line before line) ≡ Some more →
      (answer on before (heard.Line line) ≡ without_lines (Full (copied_at on before)))
      × (after_heard on before (heard.Line line) ≡ before)
  -- behind lines that count, that entry would have brought the bytes that all entries read above what they may
  pub too_many : (on : Platform) (inputs : List Input) (line : List ℕ) (more : ℕ) →
      fault_at on (after_all on no_lines inputs) line ≡ None →
      refused_at on (after_line (after_all on no_lines inputs) line) ≡ Some more →
      on.most_bytes < copied_at on (after_all on no_lines inputs) + more
  -- one that is too long, and one that the input ends within, are answered so, and neither counts
  pub long : (on : Platform) (before : NotifyFront) →
      (answer on before heard.Long ≡ without_lines TooLong) × (after_heard on before heard.Long ≡ before)
  pub cut : (on : Platform) (before : NotifyFront) →
      (answer on before heard.Cut ≡ without_lines (Bad breaks.Cut)) × (after_heard on before heard.Cut ≡ before)

-- ---- each return is the kernel's

-- what holds of the play of the lines that count behind a part of a conversation
pub record IsHeld (on : Platform) (inputs : List Input) (boot : Boot) (told : NotifyPlay) : Type 0 where
  -- it is the play of one history, legal from the boot, with the kernel's own answers, and with all that is said of the
  -- plays of a trace with signals; its entries have read at most as much as they may
  pub holds : IsNotifyPlay on.most_bytes (booted boot on.natives) on.drivers told
  -- it holds the items and the signals of these lines in their order, each signal at its place; each return that it has printed is
  -- its exit as the processor was told it there
  pub in_order : HoldsSteps on.drivers (steps_of (notify_trace_in (after_all on no_lines inputs))) told
  -- no entry in it was refused
  pub going : told.play.refused ≡ None
  -- what it has printed is what the answers have said
  pub printed : printed_in (answers on no_lines inputs) ≡ told.play.lines
  -- of the `ret` lines that were said there is one for each exit in the history, in their order: of its processor, and with its
  -- registers, but for what the desk of signals makes of them
  pub returns : AllZip (IsReturnOf on.drivers) (exits_in told.play.history) (returns_in (printed_in (answers on no_lines inputs)))
  -- and where no exit in it asks anything of the desk, it is the play of the same lines without the signals among them
  pub unasked : AsksNothing told.play.history →
      played_within on.most_bytes on.ram on.natives boot (trace_in (after_all on no_lines inputs).trace) ≡ Some told.play

-- of each conversation, behind each of its turns: the next lines may depend on the answers in any way
abbrev pub TurnsAreTold : Type 0
TurnsAreTold = (on : Platform) (inputs : List Input) (boot : Boot) (told : NotifyPlay) →
    (after_all on no_lines inputs).trace.boot ≡ Some boot → IsBooted (booted boot on.natives) →
    play_at on (after_all on no_lines inputs) ≡ Some told → IsHeld on inputs boot told

-- ---- conversations without bad lines and refusals are traces

-- each answer ends with `ok`
abbrev pub all_done : List Answer → Bool
all_done given = list_all (λ (a : Answer). is_done a.ending) given

-- the text of lines, each with its line feed
abbrev pub text_of_lines : List (List ℕ) → List ℕ
text_of_lines lines = flat_map (λ (line : List ℕ). line ++ 10 ∷ []) lines

-- beside these applications and drivers, over RAM of zeros: the lines that count behind all that was heard
abbrev pub lines_behind : List Native → Drivers → List Input → NotifyFront
lines_behind natives drivers inputs = after_all (platform natives drivers) no_lines inputs

-- and the text of the `ret` and `mem` lines that were said
abbrev pub text_said : List Native → Drivers → List Input → List ℕ
text_said natives drivers inputs = flat_map text_of_line (printed_in (answers (platform natives drivers) no_lines inputs))

-- these lines were heard, and all of them count; where no processor is inside in the end, their text spells a trace with
-- signals; and where that has a play, the answers have said what the word `notify` writes for it
pub record IsTrace (natives : List Native) (drivers : Drivers) (inputs : List Input) : Type 0 where
  pub lines : List (List ℕ)
  pub are : inputs ≡ map heard.Line lines
  pub leads : Leads (uuids_in (platform natives drivers)) no_lines lines (lines_behind natives drivers inputs)
  pub spells : end_fault (lines_behind natives drivers inputs).trace ≡ None →
      Spells (uuids_in (platform natives drivers)) (text_of_lines lines) (notify_trace_in (lines_behind natives drivers inputs))
  pub text : (text : List ℕ) → notify_text_of natives drivers (notify_trace_in (lines_behind natives drivers inputs)) ≡ Some text →
      text_said natives drivers inputs ≡ text

abbrev pub GoodConversationsAreTraces : Type 0
GoodConversationsAreTraces = (natives : List Native) (drivers : Drivers) (inputs : List Input) →
    all_done (answers (platform natives drivers) no_lines inputs) ≡ true → IsTrace natives drivers inputs

-- ---- where no answer is one that the desk makes

-- the lines have a play, and no exit in it asks anything of the desk of signals
pub record IsUnasked (on : Platform) (lines : NotifyFront) : Type 0 where
  pub boot : Boot
  pub there : lines.trace.boot ≡ Some boot
  pub boots : IsBooted (booted boot on.natives)
  pub told : NotifyPlay
  pub played : play_at on lines ≡ Some told
  pub asks : AsksNothing told.play.history

-- these lines were heard; where no processor is inside in the end, the text of those that are no signals spells a trace; and
-- the answers have said what the word `run` writes for it
pub record IsRun (natives : List Native) (drivers : Drivers) (inputs : List Input) : Type 0 where
  pub lines : List (List ℕ)
  pub are : inputs ≡ map heard.Line lines
  pub spells : end_fault (lines_behind natives drivers inputs).trace ≡ None →
      trace.Spells (uuids_in (platform natives drivers)) (text_of_lines (filter is_no_signal lines))
      (trace_in (lines_behind natives drivers inputs).trace)
  pub text : text_of natives (trace_in (lines_behind natives drivers inputs).trace)
      ≡ Some (text_said natives drivers inputs)

abbrev pub UnaskedConversationsAreRuns : Type 0
UnaskedConversationsAreRuns = (natives : List Native) (drivers : Drivers) (inputs : List Input) →
    all_done (answers (platform natives drivers) no_lines inputs) ≡ true →
    IsUnasked (platform natives drivers) (lines_behind natives drivers inputs) → IsRun natives drivers inputs
