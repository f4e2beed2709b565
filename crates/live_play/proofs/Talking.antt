-- Conversations: what has been answered is what the play of the lines that count has printed.
use Rattle.std.proofs.Common.{◌≡◌, ℕ, ◌+◌, ◌⊎◌, inl, inr, true, List, [], ◌∷◌, ◌++◌, length, drop, Option, Some, None, refl, sym, ap, subst, ◌∙◌, append_assoc, append-nil, arith}
use Rattle.std.specs.Prelude.{IsSome, if◌then◌else◌, is_some}
use Rattle.std.specs.List.{AllZip}
use Rattle.std.specs.Option.{option_and_then, option_map_or}
use Rattle.std.proofs.Math.Seq.{drop-append_seam}
use Rattle.kernel_model.specs.Application.{Booted, booted}
use Rattle.kernel_model.proofs.Parts.{some_of}
use Rattle.line_port.specs.History.{Input}
use Rattle.line_port.specs.History as heard
use Rattle.notify_play.specs.NotifyPlay.{NotifyPlay, after_step, after_steps, first_notify_play, notify_played_within, unless_refused}
use Rattle.notify_play.proofs.Following.{steps_are_played}
use Rattle.notify_play.proofs.Ordered.{steps_hold_in_order}
use Rattle.notify_text.specs.Rules.{NotifyFront, after_line, no_lines, notify_trace_in}
use Rattle.notify_text.specs.Steps.{Signals, Step, Takes, steps_from, steps_of}
use Rattle.notify_text.specs.declared.notify_trace.Signal.{Signal}
use Rattle.play_model.specs.Line.{Line}
use Rattle.play_model.specs.Play.{first_play_within}
use Rattle.ta_isa.specs.declared.boot.Boot.{Boot}
use Rattle.trace_text.specs.declared.fault.BadKind.{BadKind}
use Rattle.trace_text.specs.declared.item.Item.{Item}
use Rattle.live_play.specs.Answer.{Answer, Bad, Done, Ending, Full, Platform, after_heard, answer, answer_between, copied_at, fault_at, is_done, play_at, printed_at, refused_at, uuids_in, without_lines}
use Rattle.live_play.specs.Conversation.{after_all, answers}
use Rattle.live_play.specs.Laws.{TurnsAreTold, printed_in}
use Rattle.live_play.specs.Returns.{IsReturnOf, exits_in, returns_in}
use Rattle.live_play.proofs.Effects.{AddsItem, AddsSignal, AreOrderly, Effect, Heads, IsHeader, Stays, effect, orderly-behind, orderly-first}
use Rattle.live_play.proofs.Grown.{step-grows}
use Rattle.live_play.proofs.Returned.{AreReturned, steps_returned}
use Rattle.live_play.proofs.Steps.{steps-item, steps-one, steps-signal, within-more}
use Rattle.live_play.proofs.Unasked.{unasked_play}

-- ---- the play of the lines that count, where one comes more

-- before the first step
abbrev pub start : Platform → Boot → NotifyFront → NotifyPlay
start on boot lines =
    first_notify_play (booted boot on.natives)
    (first_play_within on.most_bytes on.ram (booted boot on.natives) lines.trace.fills)

abbrev pub play_of : Platform → Boot → NotifyFront → Option NotifyPlay
play_of on boot lines = notify_played_within on.most_bytes on.ram on.natives on.drivers boot (notify_trace_in lines)

-- with this boot
pub with_boot : (on : Platform) (boot : Boot) (lines : NotifyFront) → lines.trace.boot ≡ Some boot
    → play_at on lines ≡ play_of on boot lines
with_boot on boot lines there = ap (λ (o : Option Boot). option_and_then (λ (b : Boot). play_of on b lines) o) there

pub without_boot : (on : Platform) (lines : NotifyFront) → lines.trace.boot ≡ None → play_at on lines ≡ None
without_boot on lines none = ap (λ (o : Option Boot). option_and_then (λ (b : Boot). play_of on b lines) o) none

-- a step more
pub more-played : (on : Platform) (boot : Boot) (before after : NotifyFront) (last : Step) → before.trace.boot ≡ Some boot
    → after.trace.boot ≡ Some boot → after.trace.fills ≡ before.trace.fills
    → steps_of (notify_trace_in after) ≡ steps_of (notify_trace_in before) ++ last ∷ []
    → play_at on after
    ≡ option_and_then (unless_refused (after_step (booted boot on.natives) on.drivers last)) (play_at on before)
more-played on boot before after last was is fills steps =
    let kernel : Booted = booted boot on.natives in
    with_boot on boot after is
    ∙ ap (λ (s : List Step). after_steps kernel on.drivers s (start on boot after)) steps
    ∙ ap (λ fs. after_steps kernel on.drivers (steps_of (notify_trace_in before) ++ last ∷ [])
    (first_notify_play kernel (first_play_within on.most_bytes on.ram kernel fs))) fills
    ∙ steps-one kernel on.drivers (steps_of (notify_trace_in before)) last (start on boot before)
    ∙ ap (option_and_then (unless_refused (after_step kernel on.drivers last))) (sym (with_boot on boot before was))

-- ---- what a play has printed

-- the lines have a play, or no boot
abbrev pub IsWhole : Platform → NotifyFront → Type 0
IsWhole on lines = (lines.trace.boot ≡ None) ⊎ IsSome (play_at on lines)

abbrev pub printed_by : Option NotifyPlay → List Line
printed_by o = option_map_or (λ (told : NotifyPlay). told.play.lines) o []

abbrev pub refused_by : Option NotifyPlay → Option ℕ
refused_by o = option_and_then (λ (told : NotifyPlay). told.play.refused) o

-- of the header nothing is printed, and nothing is refused
pub record IsQuiet (on : Platform) (lines : NotifyFront) : Type 0 where
  pub printed : printed_at on lines ≡ []
  pub going : refused_at on lines ≡ None
  pub whole : IsWhole on lines

pub no_steps : (lines : NotifyFront) → IsHeader lines → steps_of (notify_trace_in lines) ≡ []
no_steps lines header =
    ap (λ (items : List Item). steps_from 0 items lines.signals) header.items
    ∙ ap (λ (signals : List Signal). steps_from 0 [] signals) header.signals

pub quiet : (on : Platform) (lines : NotifyFront) → IsHeader lines → IsQuiet on lines
quiet on lines header = by lines.trace.boot refl
  where
    by : (boot : Option Boot) → lines.trace.boot ≡ boot → IsQuiet on lines
    by None is =
        let none = without_boot on lines is in
        record { printed = ap printed_by none; going = ap refused_by none; whole = inl is }
    by (Some boot) is =
        let there : play_at on lines ≡ Some (start on boot lines) =
        with_boot on boot lines is
        ∙ ap (λ (s : List Step). after_steps (booted boot on.natives) on.drivers s (start on boot lines)) (no_steps lines header) in
        record { printed = ap printed_by there; going = ap refused_by there; whole = inr (ap is_some there) }

-- these lines were printed behind those
pub record IsGrown (on : Platform) (before after : NotifyFront) : Type 0 where
  pub whole : IsWhole on before
  pub lines : List Line
  pub are : printed_at on after ≡ printed_at on before ++ lines

-- a step more prints more
step-grown : (on : Platform) (boot : Boot) (before after : NotifyFront) (last : Step)
    → play_at on after ≡ option_and_then (unless_refused (after_step (booted boot on.natives) on.drivers last)) (play_at on before)
    → IsSome (play_at on after) → IsGrown on before after
step-grown on boot before after last e there = by (play_at on before) refl
  where
    by : (o : Option NotifyPlay) → play_at on before ≡ o → IsGrown on before after
    by None is =
        let none : play_at on after ≡ None = e ∙ ap (option_and_then (unless_refused (after_step (booted boot on.natives) on.drivers last))) is in
        absurd (let no : is_some {T = NotifyPlay} None ≡ true = subst (λ (o : Option NotifyPlay). is_some o ≡ true) none there in cc)
    by (Some told) is =
        let onward : play_at on after ≡ unless_refused (after_step (booted boot on.natives) on.drivers last) told = e ∙ ap (option_and_then (unless_refused (after_step (booted boot on.natives) on.drivers last))) is in
        let next = some_of (play_at on after) there in
        let grows = step-grows (booted boot on.natives) on.drivers last told next.0 (sym onward ∙ next.1) in
        record {
          whole = inr (ap is_some is);
          lines = grows.lines;
          are = ap printed_by next.1 ∙ grows.are ∙ ap (λ (l : List Line). l ++ grows.lines) (sym (ap printed_by is));
        }

-- what is whole with a boot has a play
pub whole_there : (on : Platform) (lines : NotifyFront) (boot : Boot) → lines.trace.boot ≡ Some boot → IsWhole on lines
    → IsSome (play_at on lines)
whole_there on lines boot there (inl none) = absurd (let no : None ≡ Some boot = sym none ∙ there in cc)
whole_there on lines boot there (inr some) = some

pub item_steps : (before : NotifyFront) (i : Item) → AreOrderly before
    → steps_from 0 (before.trace.items ++ i ∷ []) before.signals ≡ steps_of (notify_trace_in before) ++ Takes i ∷ []
item_steps before i orderly =
    steps-item 0 before.trace.items i before.signals
    (within-more (length before.trace.items) (0 + length before.trace.items) before.signals (omega arith) orderly.within)

signal_at : ℕ → ℕ → Signal
signal_at value at = record { at = at; value = value }

pub signal_steps : (before : NotifyFront) (value : ℕ)
    → steps_from 0 before.trace.items (before.signals ++ record { at = length before.trace.items; value = value } ∷ [])
    ≡ steps_of (notify_trace_in before) ++ Signals value ∷ []
unfolding signal_at
signal_steps before value =
    let same : length before.trace.items ≡ 0 + length before.trace.items = omega arith in
    ap (λ (n : ℕ). steps_from 0 before.trace.items (before.signals ++ signal_at value n ∷ [])) same
    ∙ steps-signal 0 value before.trace.items before.signals

lines_grown : (on : Platform) (before after : NotifyFront) → AreOrderly before → Effect before after → IsWhole on after
    → IsGrown on before after
lines_grown on before after orderly (Stays is) whole = record {
  whole = subst (IsWhole on) is whole;
  lines = [];
  are = ap (printed_at on) is ∙ sym (append-nil (printed_at on before));
}
lines_grown on before after orderly (Heads was now stays there) whole =
    let q = quiet on before was in record {
      whole = q.whole;
      lines = [];
      are = (quiet on after now).printed ∙ sym (append-nil (printed_at on before) ∙ q.printed);
    }
lines_grown on before after orderly (AddsItem i there is) whole =
    let boot = some_of before.trace.boot there in
    let now : after.trace.boot ≡ Some boot.0 = ap (λ (f : NotifyFront). f.trace.boot) is ∙ boot.1 in
    let steps : steps_of (notify_trace_in after) ≡ steps_of (notify_trace_in before) ++ Takes i ∷ [] =
    ap (λ (f : NotifyFront). steps_of (notify_trace_in f)) is ∙ item_steps before i orderly in
    step-grown on boot.0 before after (Takes i)
    (more-played on boot.0 before after (Takes i) boot.1 now (ap (λ (f : NotifyFront). f.trace.fills) is) steps)
    (whole_there on after boot.0 now whole)
lines_grown on before after orderly (AddsSignal value there is) whole =
    let boot = some_of before.trace.boot there in
    let now : after.trace.boot ≡ Some boot.0 = ap (λ (f : NotifyFront). f.trace.boot) is ∙ boot.1 in
    let steps : steps_of (notify_trace_in after) ≡ steps_of (notify_trace_in before) ++ Signals value ∷ [] =
    ap (λ (f : NotifyFront). steps_of (notify_trace_in f)) is ∙ signal_steps before value in
    step-grown on boot.0 before after (Signals value)
    (more-played on boot.0 before after (Signals value) boot.1 now (ap (λ (f : NotifyFront). f.trace.fills) is) steps)
    (whole_there on after boot.0 now whole)

-- ---- a turn

pub record IsStage (on : Platform) (lines : NotifyFront) : Type 0 where
  pub orderly : AreOrderly lines
  pub going : refused_at on lines ≡ None

pub stage-first : (on : Platform) → IsStage on no_lines
stage-first on = record { orderly = orderly-first; going = refl }

record IsTurned (on : Platform) (before after : NotifyFront) (said : List Line) : Type 0 where
  stage : IsStage on after
  grown : IsWhole on after → IsWhole on before × (printed_at on after ≡ printed_at on before ++ said)

-- nothing counts, and nothing is said but why
not_turned : (on : Platform) (before : NotifyFront) → IsStage on before → IsTurned on before before []
not_turned on before stage = record {
  stage = stage;
  grown = λ whole. (whole, sym (append-nil (printed_at on before)));
}

cut_off : (front all more : List Line) → all ≡ front ++ more → all ≡ front ++ drop (length front) all
cut_off front all more e =
    e ∙ ap (λ (l : List Line). front ++ l) (sym (ap (drop (length front)) e ∙ drop-append_seam front more))

-- the lines behind one whose answer ends so
abbrev pub counted : NotifyFront → NotifyFront → Ending → NotifyFront
counted before after ending = if is_done ending then after else before

abbrev pub answer_unless : Platform → NotifyFront → NotifyFront → Option ℕ → Answer
answer_unless on before after refused =
    option_map_or (λ more. without_lines (Full (copied_at on before)))
    refused
    (record { lines = drop (length (printed_at on before)) (printed_at on after); ending = Done })

abbrev pub answer_by : Platform → NotifyFront → List ℕ → Option BadKind → Answer
answer_by on before line fault =
    option_map_or (λ kind. without_lines (Bad kind)) fault (answer_between on before (after_line before line))

turned_between : (on : Platform) (before after : NotifyFront) → IsStage on before → Effect before after
    → (refused : Option ℕ) → refused_at on after ≡ refused
    → IsTurned on before (counted before after (answer_unless on before after refused).ending)
    (answer_unless on before after refused).lines
turned_between on before after stage effects (Some more) is = not_turned on before stage
turned_between on before after stage effects None is = record {
  stage = record { orderly = orderly-behind before after stage.orderly effects; going = is };
  grown = λ whole.
      let more = lines_grown on before after stage.orderly effects whole in
      (more.whole, cut_off (printed_at on before) (printed_at on after) more.lines more.are);
}

turned_line : (on : Platform) (before : NotifyFront) (line : List ℕ) → IsStage on before
    → (fault : Option BadKind) → fault_at on before line ≡ fault
    → IsTurned on before (counted before (after_line before line) (answer_by on before line fault).ending)
    (answer_by on before line fault).lines
turned_line on before line stage (Some kind) is = not_turned on before stage
turned_line on before line stage None is =
    turned_between on before (after_line before line) stage (effect (uuids_in on) before line stage.orderly is)
    (refused_at on (after_line before line)) refl

turned : (on : Platform) (before : NotifyFront) (input : Input) → IsStage on before
    → IsTurned on before (after_heard on before input) (answer on before input).lines
turned on before (heard.Line line) stage = turned_line on before line stage (fault_at on before line) refl
turned on before heard.Long stage = not_turned on before stage
turned on before heard.Cut stage = not_turned on before stage

-- ---- all turns

pub record IsTalked (on : Platform) (before after : NotifyFront) (given : List Answer) : Type 0 where
  pub stage : IsStage on after
  pub grown : IsWhole on after → IsWhole on before × (printed_at on after ≡ printed_at on before ++ printed_in given)

pub talked : (on : Platform) (before : NotifyFront) (inputs : List Input) → IsStage on before
    → IsTalked on before (after_all on before inputs) (answers on before inputs)
talked on before [] stage = record {
  stage = stage;
  grown = λ whole. (whole, sym (append-nil (printed_at on before)));
}
talked on before (input ∷ inputs) stage =
    let first = turned on before input stage in
    let rest = talked on (after_heard on before input) inputs first.stage in
    record {
      stage = rest.stage;
      grown = λ whole.
          let later = rest.grown whole in
          let earlier = first.grown later.0 in (
            earlier.0,
            later.1
                ∙ ap (λ (l : List Line). l ++ printed_in (answers on (after_heard on before input) inputs)) earlier.1
                ∙ append_assoc (printed_at on before) (answer on before input).lines
                (printed_in (answers on (after_heard on before input) inputs)),
          );
    }

-- ---- each return is the kernel's

-- what the play of lines with this boot has said of its exits
returned_at : (on : Platform) (boot : Boot) (lines : NotifyFront) (told : NotifyPlay) → lines.trace.boot ≡ Some boot
    → play_at on lines ≡ Some told → AreReturned on.drivers told
returned_at on boot lines told there e =
    steps_returned (booted boot on.natives) on.drivers (steps_of (notify_trace_in lines)) (start on boot lines) told
    (sym (with_boot on boot lines there) ∙ e) tt

pub turns_are_told : TurnsAreTold
turns_are_told on inputs boot told there boots e =
    let all = talked on no_lines inputs (stage-first on) in
    let last : NotifyFront = after_all on no_lines inputs in
    let grown = all.grown (inr (ap is_some e)) in
    let printed : printed_in (answers on no_lines inputs) ≡ told.play.lines = sym grown.1 ∙ ap printed_by e in
    let P : List Line → Type 0 = λ lines. AllZip (IsReturnOf on.drivers) (exits_in told.play.history) (returns_in lines) in
    record {
      holds = steps_are_played on.most_bytes on.ram on.natives on.drivers boot last.trace.fills (steps_of (notify_trace_in last)) told boots
          (sym (with_boot on boot last there) ∙ e);
      in_order = steps_hold_in_order on.most_bytes on.ram on.natives on.drivers boot last.trace.fills (steps_of (notify_trace_in last)) told boots
          (sym (with_boot on boot last there) ∙ e);
      going = sym (ap refused_by e) ∙ all.stage.going;
      printed = printed;
      returns = subst P (sym printed) (returned_at on boot last told there e);
      unasked = unasked_play on.most_bytes on.ram on.natives on.drivers boot (notify_trace_in last) told boots (sym (with_boot on boot last there) ∙ e);
    }
