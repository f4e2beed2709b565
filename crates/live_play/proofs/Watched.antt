-- What stands behind the line of an exit that is watched, and that it tells of all RAM.
use Rattle.std.proofs.Common.{◌≡◌, ◌⊎◌, ℕ, ◌≤◌, inl, inr, List, [], ◌∷◌, ◌++◌, length, drop, Option, Some, None, refl, sym, ap, subst, ◌∙◌, append-nil, arith}
use Rattle.std.specs.Prelude.{slice_index_or}
use Rattle.std.specs.List.{flat_map}
use Rattle.std.specs.Option.{option_and_then, option_map_or}
use Rattle.std.proofs.Math.Seq.{drop-nil}
use Rattle.std.proofs.lemmas.List.{drop_all}
use Rattle.kernel_model.specs.Application.{booted}
use Rattle.kernel_model.proofs.Parts.{some_of}
use Rattle.line_port.specs.History.{Input}
use Rattle.line_port.specs.History as heard
use Rattle.notify_play.specs.NotifyPlay.{NotifyPlay, after_step}
use Rattle.notify_text.specs.Rules.{NotifyFront, after_line, no_lines, notify_trace_in}
use Rattle.notify_text.specs.Steps.{Signals, Step, Takes, steps_of}
use Rattle.play_model.specs.Line.{Line, Mem, Ret, text_of_line}
use Rattle.ta_isa.specs.declared.boot.Boot.{Boot}
use Rattle.trace_text.specs.declared.fault.BadKind.{BadKind}
use Rattle.trace_text.specs.declared.fault.BadKind.TheVariants as bad
use Rattle.live_play.specs.Answer.{Answer, Bad, Done, Full, Platform, TooLong, after_heard, answer, copied_at, fault_at, play_at, printed_at, refused_at, text_of_ending, uuids_in}
use Rattle.live_play.specs.Conversation.{after_all}
use Rattle.live_play.specs.Returns.{returns_in}
use Rattle.live_play.specs.Showing.{lane_at, text_behind, watched_answer, watched_line}
use Rattle.live_play.specs.ShowingLaws.{ExitsAreWatched, IsWatched, OthersStay, TellsOneExitAtMost, answer_of_exit}
use Rattle.live_play.proofs.Changing.{changes_tell_all}
use Rattle.live_play.proofs.Effects.{AddsItem, AddsSignal, Effect, Heads, Stays, effect}
use Rattle.live_play.proofs.Outgoing.{GoesOut, cut_front, none_returned, one_returned, printed_more, step-goes, step-stays, step_on, step_out, stepped}
use Rattle.live_play.proofs.Talking.{IsStage, answer_by, answer_unless, counted, item_steps, more-played, printed_by, quiet, refused_by, signal_steps, stage-first, talked}

-- ---- the text of lines

-- where no line `ret` is among them, it is as where no exit is watched
pub unwatched-lines : (on : Platform) (before after : NotifyFront) (lines : List Line) → returns_in lines ≡ []
    → flat_map (watched_line on before after) lines ≡ flat_map text_of_line lines
unwatched-lines on before after [] none = refl
unwatched-lines on before after (Ret cpu regs ∷ lines) none = absurd cc
unwatched-lines on before after (Mem cpu addr bytes ∷ lines) none =
    ap (λ (l : List ℕ). text_of_line (Mem cpu addr bytes) ++ l) (unwatched-lines on before after lines none)

-- behind one line `ret` stands in what panic its call has ended, and what that exit has changed
pub watched-lines : (on : Platform) (before after : NotifyFront) (lines : List Line) (cpu : ℕ) (regs : List ℕ)
    → lines ≡ Ret cpu regs ∷ []
    → flat_map (watched_line on before after) lines ≡ flat_map text_of_line lines ++ text_behind on before after cpu
watched-lines on before after lines cpu regs is =
    let more : List ℕ = text_behind on before after cpu in
    ap (flat_map (watched_line on before after)) is
    ∙ append-nil (text_of_line (Ret cpu regs) ++ more)
    ∙ ap (λ (l : List ℕ). l ++ more) (sym (ap (flat_map text_of_line) is ∙ append-nil (text_of_line (Ret cpu regs))))

-- ---- the processor that goes out

exit_watched : (on : Platform) (before : NotifyFront) (input : Input) (cpu : ℕ) (regs : List ℕ)
    → answer on before input ≡ answer_of_exit cpu regs → IsWatched on before input cpu regs
exit_watched on before input cpu regs is =
    let after : NotifyFront = after_heard on before input in
    ap (watched_answer on before after) is
    ∙ ap (λ (text : List ℕ). text ++ text_of_ending Done) (append-nil (watched_line on before after (Ret cpu regs)))

-- ---- at most one goes out

-- no line `ret` is among these, or they are one
abbrev HaveOneAtMost : List Line → Type 0
HaveOneAtMost lines = (returns_in lines ≡ []) ⊎ ((cpu : ℕ) × (regs : List ℕ) × (lines ≡ Ret cpu regs ∷ []))

-- what is printed more by those lines than by these
abbrev printed_between : Platform → NotifyFront → NotifyFront → List Line
printed_between on before after = drop (length (printed_at on before)) (printed_at on after)

one_gone : (on : Platform) (boot : Boot) (step : Step) (cpu : ℕ) (before after : NotifyFront)
    → play_at on after ≡ option_and_then (step_on on boot step) (play_at on before)
    → refused_at on before ≡ None → refused_at on after ≡ None → step_out step ≡ Some cpu
    → (o : Option NotifyPlay) → play_at on after ≡ o → HaveOneAtMost (printed_between on before after)
one_gone on boot step cpu before after e going still out None is =
    let count : ℕ = length (printed_at on before) in
    inl (ap returns_in (ap (drop count) (ap printed_by is) ∙ drop-nil count))
one_gone on boot step cpu before after e going still out (Some next) is =
    let gone = one_returned on boot step cpu before after next e going out is (sym (ap refused_by is) ∙ still) in
    inr (cpu, gone.0, gone.1)

one_stepped : (on : Platform) (boot : Boot) (step : Step) (before after : NotifyFront)
    → play_at on after ≡ option_and_then (step_on on boot step) (play_at on before)
    → refused_at on before ≡ None → refused_at on after ≡ None → (out : Option ℕ) → step_out step ≡ out
    → HaveOneAtMost (printed_between on before after)
one_stepped on boot step before after e going still None out = inl (none_returned on boot step before after e going out)
one_stepped on boot step before after e going still (Some cpu) out =
    one_gone on boot step cpu before after e going still out (play_at on after) refl

one_printed : (on : Platform) (before after : NotifyFront) → IsStage on before → refused_at on after ≡ None → Effect before after
    → HaveOneAtMost (printed_between on before after)
one_printed on before after stage still (Stays is) =
    let printed : List Line = printed_at on before in
    inl (ap (λ (lines : NotifyFront). returns_in (printed_between on before lines)) is
    ∙ ap returns_in (drop_all (length printed) printed (omega arith)))
one_printed on before after stage still (Heads was now stays there) =
    let count : ℕ = length (printed_at on before) in
    inl (ap returns_in (ap (drop count) (quiet on after now).printed ∙ drop-nil count))
one_printed on before after stage still (AddsItem i there is) =
    let boot = some_of before.trace.boot there in
    let now : after.trace.boot ≡ Some boot.0 = ap (λ (f : NotifyFront). f.trace.boot) is ∙ boot.1 in
    let steps : steps_of (notify_trace_in after) ≡ steps_of (notify_trace_in before) ++ Takes i ∷ [] =
    ap (λ (f : NotifyFront). steps_of (notify_trace_in f)) is ∙ item_steps before i stage.orderly in
    one_stepped on boot.0 (Takes i) before after
    (more-played on boot.0 before after (Takes i) boot.1 now (ap (λ (f : NotifyFront). f.trace.fills) is) steps)
    stage.going still (step_out (Takes i)) refl
one_printed on before after stage still (AddsSignal value there is) =
    let boot = some_of before.trace.boot there in
    let now : after.trace.boot ≡ Some boot.0 = ap (λ (f : NotifyFront). f.trace.boot) is ∙ boot.1 in
    let steps : steps_of (notify_trace_in after) ≡ steps_of (notify_trace_in before) ++ Signals value ∷ [] =
    ap (λ (f : NotifyFront). steps_of (notify_trace_in f)) is ∙ signal_steps before value in
    one_stepped on boot.0 (Signals value) before after
    (more-played on boot.0 before after (Signals value) boot.1 now (ap (λ (f : NotifyFront). f.trace.fills) is) steps)
    stage.going still None refl

abbrev done_with : List Line → Answer
done_with lines = record { lines = lines; ending = Done }

one_told : (lines : List Line) → HaveOneAtMost lines → TellsOneExitAtMost (done_with lines)
one_told lines (inl none) = inl none
one_told lines (inr one) = inr (one.0, one.1, ap done_with one.2)

one_between : (on : Platform) (before after : NotifyFront) → IsStage on before → Effect before after
    → (refused : Option ℕ) → refused_at on after ≡ refused → TellsOneExitAtMost (answer_unless on before after refused)
one_between on before after stage effects (Some more) is = inl refl
one_between on before after stage effects None is =
    one_told (printed_between on before after) (one_printed on before after stage is effects)

one_to_line : (on : Platform) (before : NotifyFront) (line : List ℕ) → IsStage on before
    → (fault : Option BadKind) → fault_at on before line ≡ fault → TellsOneExitAtMost (answer_by on before line fault)
one_to_line on before line stage (Some kind) is = inl refl
one_to_line on before line stage None is =
    one_between on before (after_line before line) stage (effect (uuids_in on) before line stage.orderly is)
    (refused_at on (after_line before line)) refl

one_at_most : (on : Platform) (before : NotifyFront) (input : Input) → IsStage on before → TellsOneExitAtMost (answer on before input)
one_at_most on before (heard.Line line) stage = one_to_line on before line stage (fault_at on before line) refl
one_at_most on before heard.Long stage = inl refl
one_at_most on before heard.Cut stage = inl refl

-- ---- RAM

-- that of this processor is no shorter behind these lines than behind those, and that of every other one is the same
record LeavesRam (on : Platform) (before after : NotifyFront) (cpu : ℕ) : Type 0 where
  longer : length (lane_at on before cpu) ≤ length (lane_at on after cpu)
  others : OthersStay on before after cpu

ram_same : (on : Platform) (before after : NotifyFront) (cpu : ℕ) → after ≡ before → LeavesRam on before after cpu
ram_same on before after cpu is =
    let long = ap (λ (lines : NotifyFront). length (lane_at on lines cpu)) is in
    record { longer = omega (arith, long); others = λ other apart. ap (λ (lines : NotifyFront). lane_at on lines other) is }

abbrev lane_by : ℕ → Option NotifyPlay → List ℕ
lane_by cpu o = slice_index_or (option_map_or (λ (told : NotifyPlay). told.play.lanes) o []) cpu []

-- the step that prints the line is the one by which the processor goes out
goes_by : (on : Platform) (boot : Boot) (step : Step) (told next : NotifyPlay) (cpu : ℕ) (regs : List ℕ)
    → after_step (booted boot on.natives) on.drivers step told ≡ Some next → next.play.refused ≡ None
    → drop (length told.play.lines) next.play.lines ≡ Ret cpu regs ∷ [] → GoesOut cpu told next
goes_by on boot step told next cpu regs came going printed = by (step_out step) refl
  where
    by : (out : Option ℕ) → step_out step ≡ out → GoesOut cpu told next
    by None is =
        let stays = step-stays (booted boot on.natives) on.drivers step told next is came in
        let lines : stays.lines ≡ Ret cpu regs ∷ [] =
        sym (cut_front told.play.lines next.play.lines stays.lines stays.are) ∙ printed in
        let none : [] ≡ returns_in (Ret cpu regs ∷ []) = sym stays.none ∙ ap returns_in lines in
        absurd cc
    by (Some c) is =
        let goes = step-goes (booted boot on.natives) on.drivers step c told next is came going in
        let line : Ret c goes.regs ∷ [] ≡ Ret cpu regs ∷ [] =
        sym (cut_front told.play.lines next.play.lines (Ret c goes.regs ∷ []) goes.lines) ∙ printed in
        let same : c ≡ cpu = cc in
        subst (λ (n : ℕ). GoesOut n told next) same goes

ram_step : (on : Platform) (boot : Boot) (step : Step) (before after : NotifyFront) (cpu : ℕ) (regs : List ℕ)
    → play_at on after ≡ option_and_then (step_on on boot step) (play_at on before)
    → refused_at on before ≡ None → refused_at on after ≡ None
    → drop (length (printed_at on before)) (printed_at on after) ≡ Ret cpu regs ∷ [] → LeavesRam on before after cpu
ram_step on boot step before after cpu regs e going still printed = by (play_at on after) refl
  where
    by : (o : Option NotifyPlay) → play_at on after ≡ o → LeavesRam on before after cpu
    by None is =
        let count : ℕ = length (printed_at on before) in
        let none : [] ≡ Ret cpu regs ∷ [] = sym (ap (drop count) (ap printed_by is) ∙ drop-nil count) ∙ printed in
        absurd cc
    by (Some next) is =
        let s = stepped on boot step before after next e going is in
        let went_on : next.play.refused ≡ None = sym (ap refused_by is) ∙ still in
        let lines = sym (printed_more on before after s.told next s.was is) ∙ printed in
        let out = goes_by on boot step s.told next cpu regs s.came went_on lines in
        let was = ap (λ (o : Option NotifyPlay). length (lane_by cpu o)) s.was in
        let now = ap (λ (o : Option NotifyPlay). length (lane_by cpu o)) is in
        record {
          longer = omega (arith, was, now, out.longer);
          others = λ other apart.
              ap (lane_by other) is ∙ out.others other apart ∙ sym (ap (lane_by other) s.was);
        }

ram_by : (on : Platform) (before after : NotifyFront) (cpu : ℕ) (regs : List ℕ) → IsStage on before
    → refused_at on after ≡ None → drop (length (printed_at on before)) (printed_at on after) ≡ Ret cpu regs ∷ []
    → Effect before after → LeavesRam on before after cpu
ram_by on before after cpu regs stage still printed (Stays is) = ram_same on before after cpu is
ram_by on before after cpu regs stage still printed (Heads was now stays there) =
    let none : [] ≡ Ret cpu regs ∷ [] =
    sym (ap (λ (l : List Line). drop (length l) (printed_at on after)) (quiet on before was).printed
    ∙ ap (drop 0) (quiet on after now).printed) ∙ printed in
    absurd cc
ram_by on before after cpu regs stage still printed (AddsItem i there is) =
    let boot = some_of before.trace.boot there in
    let now : after.trace.boot ≡ Some boot.0 = ap (λ (f : NotifyFront). f.trace.boot) is ∙ boot.1 in
    let steps : steps_of (notify_trace_in after) ≡ steps_of (notify_trace_in before) ++ Takes i ∷ [] =
    ap (λ (f : NotifyFront). steps_of (notify_trace_in f)) is ∙ item_steps before i stage.orderly in
    ram_step on boot.0 (Takes i) before after cpu regs
    (more-played on boot.0 before after (Takes i) boot.1 now (ap (λ (f : NotifyFront). f.trace.fills) is) steps)
    stage.going still printed
ram_by on before after cpu regs stage still printed (AddsSignal value there is) =
    let boot = some_of before.trace.boot there in
    let now : after.trace.boot ≡ Some boot.0 = ap (λ (f : NotifyFront). f.trace.boot) is ∙ boot.1 in
    let steps : steps_of (notify_trace_in after) ≡ steps_of (notify_trace_in before) ++ Signals value ∷ [] =
    ap (λ (f : NotifyFront). steps_of (notify_trace_in f)) is ∙ signal_steps before value in
    ram_step on boot.0 (Signals value) before after cpu regs
    (more-played on boot.0 before after (Signals value) boot.1 now (ap (λ (f : NotifyFront). f.trace.fills) is) steps)
    stage.going still printed

ram_between : (on : Platform) (before after : NotifyFront) (cpu : ℕ) (regs : List ℕ) → IsStage on before → Effect before after
    → (refused : Option ℕ) → refused_at on after ≡ refused → answer_unless on before after refused ≡ answer_of_exit cpu regs
    → LeavesRam on before (counted before after (answer_unless on before after refused).ending) cpu
ram_between on before after cpu regs stage effects (Some more) is told =
    let no : Full (copied_at on before) ≡ Done = ap (λ (a : Answer). a.ending) told in
    absurd cc
ram_between on before after cpu regs stage effects None is told =
    ram_by on before after cpu regs stage is (ap (λ (a : Answer). a.lines) told) effects

ram_line : (on : Platform) (before : NotifyFront) (line : List ℕ) (cpu : ℕ) (regs : List ℕ) → IsStage on before
    → (fault : Option BadKind) → fault_at on before line ≡ fault → answer_by on before line fault ≡ answer_of_exit cpu regs
    → LeavesRam on before (counted before (after_line before line) (answer_by on before line fault).ending) cpu
ram_line on before line cpu regs stage (Some kind) is told =
    let no : Bad kind ≡ Done = ap (λ (a : Answer). a.ending) told in
    absurd cc
ram_line on before line cpu regs stage None is told =
    ram_between on before (after_line before line) cpu regs stage (effect (uuids_in on) before line stage.orderly is)
    (refused_at on (after_line before line)) refl told

ram_left : (on : Platform) (before : NotifyFront) (input : Input) (cpu : ℕ) (regs : List ℕ) → IsStage on before
    → answer on before input ≡ answer_of_exit cpu regs → LeavesRam on before (after_heard on before input) cpu
ram_left on before (heard.Line line) cpu regs stage told =
    ram_line on before line cpu regs stage (fault_at on before line) refl told
ram_left on before heard.Long cpu regs stage told =
    let no : TooLong ≡ Done = ap (λ (a : Answer). a.ending) told in
    absurd cc
ram_left on before heard.Cut cpu regs stage told =
    let no : Bad bad.Cut ≡ Done = ap (λ (a : Answer). a.ending) told in
    absurd cc

ram_behind : (on : Platform) (inputs : List Input) (input : Input) (cpu : ℕ) (regs : List ℕ)
    → answer on (after_all on no_lines inputs) input ≡ answer_of_exit cpu regs
    → LeavesRam on (after_all on no_lines inputs) (after_heard on (after_all on no_lines inputs) input) cpu
ram_behind on inputs input cpu regs is =
    ram_left on (after_all on no_lines inputs) input cpu regs (talked on no_lines inputs (stage-first on)).stage is

pub exits_are_watched : ExitsAreWatched
exits_are_watched = record {
  at_most_one = λ on inputs input.
      one_at_most on (after_all on no_lines inputs) input (talked on no_lines inputs (stage-first on)).stage;
  unwatched = λ on before after given none.
      ap (λ (text : List ℕ). text ++ text_of_ending given.ending) (unwatched-lines on before after given.lines none);
  told = exit_watched;
  laid_over = λ on inputs input cpu regs is.
      let before = after_all on no_lines inputs in
      changes_tell_all (lane_at on before cpu) (lane_at on (after_heard on before input) cpu)
      (ram_behind on inputs input cpu regs is).longer;
  others = λ on inputs input cpu regs is. (ram_behind on inputs input cpu regs is).others;
}
