-- What is refused: a line that breaks a rule, and one whose entry would read too much.
use Rattle.std.proofs.Common.{◌≡◌, ℕ, ◌+◌, ◌<◌, Bool, true, false, List, [], ◌∷◌, ◌++◌, Option, Some, None, refl, sym, ap, ◌∙◌, arith}
use Rattle.std.specs.Prelude.{if◌then◌else◌}
use Rattle.std.specs.Option.{option_and_then, option_map_or}
use Rattle.event_journal.specs.Journal.{copied_bytes}
use Rattle.kernel_model.specs.Application.{booted}
use Rattle.kernel_model.proofs.Parts.{some_of}
use Rattle.line_port.specs.History.{Input}
use Rattle.live_text.specs.Asking.{question_of, question_rules}
use Rattle.live_text.specs.Rules.{LiveFront, with_told, without_history}
use Rattle.live_text.specs.Scene.{scene_of}
use Rattle.live_text.specs.declared.question.QuestionKind.{QuestionKind}
use Rattle.notify_play.specs.NotifyPlay.{NotifyPlay}
use Rattle.notify_text.specs.Rules.{NotifyFront, after_line, no_lines, notify_trace_in}
use Rattle.notify_text.specs.Steps.{Signals, Step, Takes, steps_of}
use Rattle.ta_isa.specs.declared.boot.Boot.{Boot}
use Rattle.text_lines.specs.Words.{words_of}
use Rattle.trace_text.specs.Limits.{first_broken}
use Rattle.trace_text.specs.declared.fault.BadKind.{BadKind}
use Rattle.live_play.specs.Answer.{Answer, Bad, Done, Ending, Platform, after_heard, answer, copied_at, fault_at, is_done, play_at, refused_at, text_of_answer, text_of_ending, uuids_in, with_heard, without_lines}
use Rattle.live_play.specs.Conversation.{after_all}
use Rattle.live_play.specs.Showing.{Position, history_fault, kind_asked_by, line_of, platform_at, position_after, shown_to, answer_at, turns_history, watched_answer, watching_after}
use Rattle.live_play.specs.ShowingLaws.{RefusedLinesChangeNothing, is_plain}
use Rattle.live_play.proofs.Asked.{after_question, is_other, lines_by, other_after, other_shown, shown_by, unasked_by}
use Rattle.live_play.proofs.Effects.{AddsItem, AddsSignal, Effect, Heads, Stays, effect}
use Rattle.live_play.proofs.Forgetting.{turning_asks}
use Rattle.live_play.proofs.Limits.{step_reads, steps_limit}
use Rattle.live_play.proofs.Outgoing.{step_on, stepped}
use Rattle.live_play.proofs.Talking.{IsStage, item_steps, more-played, quiet, refused_by, signal_steps, stage-first, start, talked, with_boot}

-- ---- lines that break a rule

-- it is answered so, and all is as it was
abbrev IsRefused : Platform → Position → Input → Ending → Type 0
IsRefused on here input ending = (shown_to on here input ≡ text_of_ending ending) × (position_after on here input ≡ here)

question_refused : (on : Platform) (here : Position) (input : Input) (kind : QuestionKind) (fault : BadKind)
    → kind_asked_by input ≡ Some kind
    → first_broken (question_rules kind (scene_of here.lines) (line_of input)) ≡ Some fault → IsRefused on here input (Bad fault)
question_refused on here input kind fault asks broken =
    let asked = question_of kind (words_of (line_of input)) in (
      shown_by on here input (Some kind) asks
          ∙ ap (λ (o : Option BadKind). option_map_or (λ fault. text_of_ending (Bad fault)) o
          (answer_at (platform_at on here.lines) here.lines.told asked ++ text_of_ending Done)) broken,
      after_question on here input (Some kind) asks
          ∙ ap (λ (o : Option BadKind). option_map_or (λ fault. here) o
          (record here { is_watching = watching_after asked here.is_watching })) broken,
    )

-- nothing stands behind an answer that has no line
said_alone : (on : Platform) (before after : NotifyFront) (ending : Ending) (watching : Bool)
    → (if watching then watched_answer on before after (without_lines ending) else text_of_answer (without_lines ending))
    ≡ text_of_ending ending
said_alone on before after ending true = refl
said_alone on before after ending false = refl

other_refused : (on : Platform) (here : Position) (input : Input) (ending : Ending) → is_plain input ≡ true
    → is_done ending ≡ false → answer (platform_at on here.lines) here.lines.told input ≡ without_lines ending
    → IsRefused on here input ending
other_refused on here input ending plain not_done is =
    let there : Platform = platform_at on here.lines in
    let before : NotifyFront = here.lines.told in
    let after : NotifyFront = after_heard there before input in
    let other = is_other input plain in (
      other_shown on here input other
          ∙ ap (λ (given : Answer). if here.is_watching then watched_answer there before after given else text_of_answer given) is
          ∙ said_alone there before after ending here.is_watching,
      other_after on here input other
          ∙ ap (λ (given : Answer). record here { lines = with_told here.lines (if is_done given.ending then with_heard before input else before) }) is
          ∙ ap (λ (done : Bool). record here { lines = with_told here.lines (if done then with_heard before input else before) }) not_done,
    )

history_refused : (on : Platform) (here : Position) (input : Input) (fault : BadKind) → turns_history input ≡ true
    → history_fault on here.lines (line_of input) ≡ Some fault → IsRefused on here input (Bad fault)
history_refused on here input fault turns broken =
    let asks = turning_asks input turns in (
      shown_by on here input None asks
          ∙ unasked_by on here input true turns
          ∙ ap (λ (o : Option BadKind). text_of_ending (option_map_or Bad o Done)) broken,
      after_question on here input None asks
          ∙ ap (λ (lines : LiveFront). record here { lines = lines }) (lines_by on here.lines input true turns)
          ∙ ap (λ (o : Option BadKind). record here { lines = option_map_or (λ (kind : BadKind). here.lines) o (without_history here.lines) }) broken,
    )

pub refused_lines_change_nothing : RefusedLinesChangeNothing
refused_lines_change_nothing = record { question = question_refused; other = other_refused; history = history_refused }

-- ---- an entry that would read too much

abbrev copied_by : Option NotifyPlay → ℕ
copied_by o = option_map_or (λ (told : NotifyPlay). copied_bytes told.play.history) o 0

step_much : (on : Platform) (boot : Boot) (step : Step) (before after : NotifyFront) (more : ℕ) → before.trace.boot ≡ Some boot
    → play_at on after ≡ option_and_then (step_on on boot step) (play_at on before)
    → refused_at on before ≡ None → refused_at on after ≡ Some more → on.most_bytes < copied_at on before + more
step_much on boot step before after more there e going refused = by (play_at on after) refl
  where
    by : (o : Option NotifyPlay) → play_at on after ≡ o → on.most_bytes < copied_at on before + more
    by None is =
        let no : None ≡ Some more = sym (ap refused_by is) ∙ refused in
        absurd cc
    by (Some next) is =
        let s = stepped on boot step before after next e going is in
        let reads = step_reads (booted boot on.natives) on.drivers step s.told next s.came in
        let much = reads.much more (sym (ap refused_by s.was) ∙ going) (sym (ap refused_by is) ∙ refused) in
        let limit = steps_limit (booted boot on.natives) on.drivers (steps_of (notify_trace_in before)) (start on boot before) s.told
        (sym (with_boot on boot before there) ∙ s.was) in
        let copied = ap copied_by s.was in
        omega (arith, much, limit, copied)

much_by : (on : Platform) (before after : NotifyFront) (more : ℕ) → IsStage on before → refused_at on after ≡ Some more
    → Effect before after → on.most_bytes < copied_at on before + more
much_by on before after more stage refused (Stays is) =
    let no : None ≡ Some more = sym (ap (refused_at on) is ∙ stage.going) ∙ refused in
    absurd cc
much_by on before after more stage refused (Heads was now stays there) =
    let no : None ≡ Some more = sym (quiet on after now).going ∙ refused in
    absurd cc
much_by on before after more stage refused (AddsItem i there is) =
    let boot = some_of before.trace.boot there in
    let now : after.trace.boot ≡ Some boot.0 = ap (λ (f : NotifyFront). f.trace.boot) is ∙ boot.1 in
    let steps : steps_of (notify_trace_in after) ≡ steps_of (notify_trace_in before) ++ Takes i ∷ [] =
    ap (λ (f : NotifyFront). steps_of (notify_trace_in f)) is ∙ item_steps before i stage.orderly in
    step_much on boot.0 (Takes i) before after more boot.1
    (more-played on boot.0 before after (Takes i) boot.1 now (ap (λ (f : NotifyFront). f.trace.fills) is) steps)
    stage.going refused
much_by on before after more stage refused (AddsSignal value there is) =
    let boot = some_of before.trace.boot there in
    let now : after.trace.boot ≡ Some boot.0 = ap (λ (f : NotifyFront). f.trace.boot) is ∙ boot.1 in
    let steps : steps_of (notify_trace_in after) ≡ steps_of (notify_trace_in before) ++ Signals value ∷ [] =
    ap (λ (f : NotifyFront). steps_of (notify_trace_in f)) is ∙ signal_steps before value in
    step_much on boot.0 (Signals value) before after more boot.1
    (more-played on boot.0 before after (Signals value) boot.1 now (ap (λ (f : NotifyFront). f.trace.fills) is) steps)
    stage.going refused

pub too_many : (on : Platform) (inputs : List Input) (line : List ℕ) (more : ℕ)
    → fault_at on (after_all on no_lines inputs) line ≡ None
    → refused_at on (after_line (after_all on no_lines inputs) line) ≡ Some more
    → on.most_bytes < copied_at on (after_all on no_lines inputs) + more
too_many on inputs line more kept refused =
    let before : NotifyFront = after_all on no_lines inputs in
    let stage = (talked on no_lines inputs (stage-first on)).stage in
    much_by on before (after_line before line) more stage refused (effect (uuids_in on) before line stage.orderly kept)
