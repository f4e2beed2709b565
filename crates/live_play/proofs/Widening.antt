-- A conversation in which no entry is refused is the same where entries may read more.
use Rattle.std.proofs.Common.{◌≡◌, ℕ, ◌≤◌, true, List, [], ◌∷◌, length, drop, Option, Some, None, refl, sym, ap, ◌∙◌}
use Rattle.std.specs.Prelude.{if◌then◌else◌, not}
use Rattle.std.specs.Option.{option_map, option_map_or}
use Rattle.std.proofs.lemmas.Bool.{and_parts}
use Rattle.event_journal.specs.Journal.{copied_bytes}
use Rattle.kernel_model.specs.Application.{booted}
use Rattle.line_port.specs.History.{Input}
use Rattle.line_port.specs.History as heard
use Rattle.notify_play.specs.NotifyPlay.{NotifyPlay}
use Rattle.notify_text.specs.Rules.{NotifyFront, after_line, notify_trace_in}
use Rattle.notify_text.specs.Steps.{steps_of}
use Rattle.ta_isa.specs.declared.boot.Boot.{Boot}
use Rattle.trace_text.specs.declared.fault.BadKind.{BadKind}
use Rattle.live_play.specs.Answer.{Answer, Done, Full, Platform, after_heard, answer, answer_between, fault_at, is_done, play_at, refused_at, with_heard, without_lines}
use Rattle.live_play.specs.Conversation.{after_all, answers}
use Rattle.live_play.specs.Showing.{within}
use Rattle.live_play.specs.ShowingLaws.{is_full, refuses_none}
use Rattle.live_play.proofs.Limits.{steps_wide, wide}
use Rattle.live_play.proofs.Talking.{IsStage, answer_by, answer_unless, printed_by, refused_by, start, talked, with_boot, without_boot}

module _ (on : Platform) (most more : ℕ) (le : most ≤ more) where
  abbrev small : Platform
  small = within on most

  abbrev large : Platform
  large = within on more

  -- ---- plays

  played_by : (lines : NotifyFront) (boot : Option Boot) → lines.trace.boot ≡ boot → refused_at small lines ≡ None
      → play_at large lines ≡ option_map (wide more) (play_at small lines)
  played_by lines None there going =
      without_boot large lines there ∙ sym (ap (option_map (wide more)) (without_boot small lines there))
  played_by lines (Some boot) there going =
      let was = with_boot small boot lines there in
      with_boot large boot lines there
      ∙ steps_wide more (booted boot on.natives) on.drivers (steps_of (notify_trace_in lines)) (start small boot lines) le
      (ap refused_by (sym was) ∙ going)
      ∙ sym (ap (option_map (wide more)) was)

  pub played_wide : (lines : NotifyFront) → refused_at small lines ≡ None
      → play_at large lines ≡ option_map (wide more) (play_at small lines)
  played_wide lines going = played_by lines lines.trace.boot refl going

  -- ---- an answer

  abbrev copied_by : Option NotifyPlay → ℕ
  copied_by o = option_map_or (λ (told : NotifyPlay). copied_bytes told.play.history) o 0

  -- between two plays
  abbrev answer_of : Option NotifyPlay → Option NotifyPlay → Answer
  answer_of was is =
      option_map_or (λ k. without_lines (Full (copied_by was)))
      (refused_by is)
      (record { lines = drop (length (printed_by was)) (printed_by is); ending = Done })

  answer_same : (was is : Option NotifyPlay) → answer_of (option_map (wide more) was) (option_map (wide more) is) ≡ answer_of was is
  answer_same None None = refl
  answer_same None (Some told) = refl
  answer_same (Some before) None = refl
  answer_same (Some before) (Some told) = refl

  between_wide : (before after : NotifyFront) → refused_at small before ≡ None → refused_at small after ≡ None
      → answer_between large before after ≡ answer_between small before after
  between_wide before after was is =
      ap (λ (o : Option NotifyPlay). answer_of o (play_at large after)) (played_wide before was)
      ∙ ap (answer_of (option_map (wide more) (play_at small before))) (played_wide after is)
      ∙ answer_same (play_at small before) (play_at small after)

  -- where no entry is refused
  unrefused : (before after : NotifyFront) (refused : Option ℕ)
      → not (is_full (answer_unless small before after refused).ending) ≡ true → refused ≡ None
  unrefused before after None none = refl
  unrefused before after (Some count) none = absurd cc

  line_wide : (before : NotifyFront) (line : List ℕ) (fault : Option BadKind) → IsStage small before
      → not (is_full (answer_by small before line fault).ending) ≡ true
      → answer_by large before line fault ≡ answer_by small before line fault
  line_wide before line (Some kind) stage none = refl
  line_wide before line None stage none =
      between_wide before (after_line before line) stage.going
      (unrefused before (after_line before line) (refused_at small (after_line before line)) none)

  pub answer_wide : (before : NotifyFront) (input : Input) → IsStage small before
      → not (is_full (answer small before input).ending) ≡ true → answer large before input ≡ answer small before input
  answer_wide before (heard.Line line) stage none = line_wide before line (fault_at small before line) stage none
  answer_wide before heard.Long stage none = refl
  answer_wide before heard.Cut stage none = refl

  -- ---- a conversation

  pub record AreSame (before : NotifyFront) (inputs : List Input) : Type 0 where
    pub given : answers large before inputs ≡ answers small before inputs
    pub lines : after_all large before inputs ≡ after_all small before inputs

  pub same : (before : NotifyFront) (inputs : List Input) → IsStage small before
      → refuses_none (answers small before inputs) ≡ true → AreSame before inputs
  same before [] stage none = record { given = refl; lines = refl }
  same before (input ∷ inputs) stage none =
      let after : NotifyFront = after_heard small before input in
      let parts = and_parts (not (is_full (answer small before input).ending)) (refuses_none (answers small after inputs)) none in
      let is = answer_wide before input stage parts.0 in
      let counts : after_heard large before input ≡ after =
      ap (λ (given : Answer). if is_done given.ending then with_heard before input else before) is in
      let rest = same after inputs (talked small before (input ∷ []) stage).stage parts.1 in
      record {
        given = ap (λ (given : Answer). given ∷ answers large (after_heard large before input) inputs) is
            ∙ ap (λ (f : NotifyFront). answer small before input ∷ answers large f inputs) counts
            ∙ ap (λ (given : List Answer). answer small before input ∷ given) rest.given;
        lines = ap (λ (f : NotifyFront). after_all large f inputs) counts ∙ rest.lines;
      }
