-- The calls of a desk: signals of the steps, and what the exits of the history ask.
use Rattle.std.proofs.Common.{◌≡◌, ℕ, List, [], ◌∷◌, ◌++◌, Option, Some, None, refl, ap, subst, sym, ◌∙◌}
use Rattle.std.specs.Option.{option_and_then, option_map_or}
use Rattle.std.proofs.lemmas.List.{append-nil, append_assoc}
use Rattle.std.proofs.lemmas.Option.{option_and_then_some}
use Rattle.event_journal.specs.declared.event.Event.{Event}
use Rattle.event_journal.specs.declared.event.Event.TheVariants.{Entry, Exit}
use Rattle.kernel_model.specs.Application.{Booted}
use Rattle.kernel_model.specs.Exit.{Exited, exit}
use Rattle.kernel_model.specs.Kernel.{Visit}
use Rattle.kernel_model.proofs.Parts.{option_map_some}
use Rattle.notif.specs.History.{BottomHalf, DeskCall, Enable, Next, Signal, Stop}
use Rattle.notify_text.specs.Steps.{Signals, Step, Takes}
use Rattle.play_model.specs.Play.{Play, enters, with_event}
use Rattle.play_model.proofs.Entries.{CameIn, Entered, WasRefused, entered, event_made}
use Rattle.trace_text.specs.declared.item.Item.{Item}
use Rattle.trace_text.specs.declared.item.Item.TheVariants as item
use Rattle.trace_text.specs.declared.item.Reg.{Reg}
use Rattle.notify_play.specs.Asked.{asked, others_among, signalled, signals_among, taken}
use Rattle.notify_play.specs.Duty.{Duty, Enables, Nothing, Offers, RunsBottomHalf, Stops, TellsValue}
use Rattle.notify_play.specs.Laws.{CallsBetween, StepsCallDesk}
use Rattle.notify_play.specs.NotifyPlay.{Drivers, NotifyPlay, after_item, after_step, after_steps, comes_in, duty_at}
use Rattle.notify_play.specs.NotifyPlay.{goes_out, goes_out_with, tells, unless_refused, visit_with, with_play}
use Rattle.notify_play.specs.Told.{with_duty}

-- ---- lists of calls

signals-append : (one other : List DeskCall) → signals_among (one ++ other) ≡ signals_among one ++ signals_among other
signals-append [] other = refl
signals-append (Enable ∷ one) other = signals-append one other
signals-append (Signal value ∷ one) other = ap (λ (values : List ℕ). value ∷ values) (signals-append one other)
signals-append (Next ∷ one) other = signals-append one other
signals-append (BottomHalf ∷ one) other = signals-append one other
signals-append (Stop ∷ one) other = signals-append one other

others-append : (one other : List DeskCall) → others_among (one ++ other) ≡ others_among one ++ others_among other
others-append [] other = refl
others-append (Enable ∷ one) other = ap (λ (calls : List DeskCall). Enable ∷ calls) (others-append one other)
others-append (Signal value ∷ one) other = others-append one other
others-append (Next ∷ one) other = ap (λ (calls : List DeskCall). Next ∷ calls) (others-append one other)
others-append (BottomHalf ∷ one) other = ap (λ (calls : List DeskCall). BottomHalf ∷ calls) (others-append one other)
others-append (Stop ∷ one) other = ap (λ (calls : List DeskCall). Stop ∷ calls) (others-append one other)

-- what a duty asks stands in front of the calls before, and is no signal
duty-append : (duty : Duty) (calls : List DeskCall) → with_duty duty calls ≡ with_duty duty [] ++ calls
duty-append Nothing calls = refl
duty-append TellsValue calls = refl
duty-append Enables calls = refl
duty-append Offers calls = refl
duty-append (RunsBottomHalf arg) calls = refl
duty-append (Stops arg) calls = refl

no_signal : (duty : Duty) → signals_among (with_duty duty []) ≡ []
no_signal Nothing = refl
no_signal TellsValue = refl
no_signal Enables = refl
no_signal Offers = refl
no_signal (RunsBottomHalf arg) = refl
no_signal (Stops arg) = refl

all_other : (duty : Duty) → others_among (with_duty duty []) ≡ with_duty duty []
all_other Nothing = refl
all_other TellsValue = refl
all_other Enables = refl
all_other Offers = refl
all_other (RunsBottomHalf arg) = refl
all_other (Stops arg) = refl

asked-append : (before one other : List Event)
    → asked before (one ++ other) ≡ asked (before ++ one) other ++ asked before one
asked-append before [] other =
    ap (λ (h : List Event). asked h other) (sym (append-nil before)) ∙ sym (append-nil (asked (before ++ []) other))
asked-append before (Entry came given steps reads ∷ one) other =
    let event : Event = Entry came given steps reads in
    asked-append (before ++ event ∷ []) one other
    ∙ ap (λ (h : List Event). asked h other ++ asked (before ++ event ∷ []) one) (append_assoc before (event ∷ []) one)
asked-append before (Exit went told ∷ one) other =
    let event : Event = Exit went told in
    let last : List DeskCall = asked before (event ∷ []) in
    ap (λ (calls : List DeskCall). calls ++ last) (asked-append (before ++ event ∷ []) one other)
    ∙ append_assoc (asked ((before ++ event ∷ []) ++ one) other) (asked (before ++ event ∷ []) one) last
    ∙ ap (λ (h : List Event). asked h other ++ (asked (before ++ event ∷ []) one ++ last))
    (append_assoc before (event ∷ []) one)

-- ---- plays of which one comes of the other

none_between : (before after : NotifyPlay) → after.play.history ≡ before.play.history → after.calls ≡ before.calls
    → CallsBetween [] before after
none_between before after history calls = record {
  events = [];
  history = history ∙ sym (append-nil before.play.history);
  made = [];
  calls = calls;
  signals = refl;
  others = refl;
}

both_between : (one other : List ℕ) (before between after : NotifyPlay) → CallsBetween one before between
    → CallsBetween other between after → CallsBetween (other ++ one) before after
both_between one other before between after first then = record {
  events = first.events ++ then.events;
  history = then.history
      ∙ ap (λ (h : List Event). h ++ then.events) first.history
      ∙ append_assoc before.play.history first.events then.events;
  made = then.made ++ first.made;
  calls = then.calls
      ∙ ap (λ (calls : List DeskCall). then.made ++ calls) first.calls
      ∙ sym (append_assoc then.made first.made before.calls);
  signals = signals-append then.made first.made
      ∙ ap (λ (values : List ℕ). values ++ signals_among first.made) then.signals
      ∙ ap (λ (values : List ℕ). other ++ values) first.signals;
  others = others-append then.made first.made
      ∙ ap (λ (calls : List DeskCall). calls ++ others_among first.made) then.others
      ∙ ap (λ (calls : List DeskCall). asked between.play.history then.events ++ calls) first.others
      ∙ ap (λ (h : List Event). asked h then.events ++ asked before.play.history first.events) first.history
      ∙ sym (asked-append before.play.history first.events then.events);
}

-- ---- entries and exits

entry_between : (boot : Booted) (visit : Visit) (before : NotifyPlay) (came : Play)
    → Entered boot visit before.play came → CallsBetween [] before (with_play before came)
entry_between boot visit before came (CameIn reads few e) = record {
  events = Entry visit.cpu (record { a = visit.regs }) visit.steps reads ∷ [];
  history = (event_made boot (Entry visit.cpu (record { a = visit.regs }) visit.steps reads) before.play came e).0;
  made = [];
  calls = refl;
  signals = refl;
  others = refl;
}
entry_between boot visit before came (WasRefused reads much is) =
    none_between before (with_play before came) (ap (λ (p : Play). p.history) (sym is)) refl

comes_between : (boot : Booted) (cpu steps : ℕ) (regs : List Reg) (before after : NotifyPlay)
    → comes_in boot cpu steps regs before ≡ Some after → CallsBetween [] before after
comes_between boot cpu steps regs before after e =
    let visit = visit_with before cpu steps regs in
    let came = option_map_some (with_play before) (enters boot before.play visit) after e in
    subst (CallsBetween [] before) came.2
    (entry_between boot visit before came.0 (entered boot visit before.play came.0 came.1))

exit_between : (boot : Booted) (drivers : Drivers) (cpu : ℕ) (before : NotifyPlay) (exited : Exited) (gone : Play)
    → with_event boot (Exit cpu (record { a = exited.regs })) before.play ≡ Some gone
    → CallsBetween [] before (tells drivers before cpu exited (duty_at before cpu exited) gone)
exit_between boot drivers cpu before exited gone e =
    let duty = duty_at before cpu exited in
    record {
      events = Exit cpu (record { a = exited.regs }) ∷ [];
      history = (event_made boot (Exit cpu (record { a = exited.regs })) before.play gone e).0;
      made = with_duty duty [];
      calls = duty-append duty before.calls;
      signals = no_signal duty;
      others = all_other duty;
    }

goes_between : (boot : Booted) (drivers : Drivers) (cpu : ℕ) (before after : NotifyPlay)
    → goes_out boot drivers cpu before ≡ Some after → CallsBetween [] before after
goes_between boot drivers cpu before after e =
    option_and_then_some (goes_out_with boot drivers before cpu) (exit before.play.kernel cpu) after e
    (λ (exited : Exited) found onward.
    let came = option_map_some (tells drivers before cpu exited (duty_at before cpu exited))
    (with_event boot (Exit cpu (record { a = exited.regs })) before.play) after onward in
    subst (CallsBetween [] before) came.2 (exit_between boot drivers cpu before exited came.0 came.1))

-- ---- steps

-- it goes out, or its entry was refused
rest_between : (boot : Booted) (drivers : Drivers) (cpu : ℕ) (before after : NotifyPlay) (refused : Option ℕ)
    → before.play.refused ≡ refused → unless_refused (goes_out boot drivers cpu) before ≡ Some after
    → CallsBetween [] before after
rest_between boot drivers cpu before after None is e =
    goes_between boot drivers cpu before after
    (sym (ap (λ (o : Option ℕ). option_map_or (λ more. Some before) o (goes_out boot drivers cpu before)) is) ∙ e)
rest_between boot drivers cpu before after (Some more) is e =
    let here : Some before ≡ Some after = sym
    (ap (λ (o : Option ℕ). option_map_or (λ more. Some before) o (goes_out boot drivers cpu before)) is) ∙ e in
    let same : before ≡ after = cc in
    subst (CallsBetween [] before) same (none_between before before refl refl)

item_between : (boot : Booted) (drivers : Drivers) (i : Item) (before after : NotifyPlay)
    → after_item boot drivers i before ≡ Some after → CallsBetween [] before after
item_between boot drivers (item.Smc cpu steps regs) before after e =
    option_and_then_some (unless_refused (goes_out boot drivers cpu)) (comes_in boot cpu steps regs before) after e
    (λ (between : NotifyPlay) came onward.
    both_between [] [] before between after (comes_between boot cpu steps regs before between came)
    (rest_between boot drivers cpu between after between.play.refused refl onward))
item_between boot drivers (item.Enter cpu steps regs) before after e =
    comes_between boot cpu steps regs before after e
item_between boot drivers (item.Leave cpu) before after e = goes_between boot drivers cpu before after e
item_between boot drivers (item.Write cpu addr bytes) before after e =
    none_between before after
    (sym (ap (λ (o : Option NotifyPlay). option_map_or (λ (p : NotifyPlay). p.play.history) o before.play.history) e))
    (sym (ap (λ (o : Option NotifyPlay). option_map_or (λ (p : NotifyPlay). p.calls) o before.calls) e))
item_between boot drivers (item.Show cpu addr len) before after e =
    none_between before after
    (sym (ap (λ (o : Option NotifyPlay). option_map_or (λ (p : NotifyPlay). p.play.history) o before.play.history) e))
    (sym (ap (λ (o : Option NotifyPlay). option_map_or (λ (p : NotifyPlay). p.calls) o before.calls) e))

-- a step that was taken, and what came behind it
step_between : (boot : Booted) (drivers : Drivers) (first : Step) (steps : List Step) (before next after : NotifyPlay)
    → after_step boot drivers first before ≡ Some next → CallsBetween (signalled steps) next after
    → CallsBetween (signalled (first ∷ steps)) before after
step_between boot drivers (Takes i) steps before next after e behind =
    subst (λ (values : List ℕ). CallsBetween values before after) (append-nil (signalled steps))
    (both_between [] (signalled steps) before next after (item_between boot drivers i before next e) behind)
step_between boot drivers (Signals value) steps before next after e behind =
    both_between (value ∷ []) (signalled steps) before next after
    (record {
      events = [];
      history = sym
          (ap (λ (o : Option NotifyPlay). option_map_or (λ (p : NotifyPlay). p.play.history) o before.play.history) e)
          ∙ sym (append-nil before.play.history);
      made = Signal value ∷ [];
      calls = sym (ap (λ (o : Option NotifyPlay). option_map_or (λ (p : NotifyPlay). p.calls) o before.calls) e);
      signals = refl;
      others = refl;
    })
    behind

-- ---- which steps are taken

-- these at this play, which was refused or not
abbrev taken_where : Booted → Drivers → Step → List Step → NotifyPlay → Option ℕ → Option NotifyPlay → List Step
taken_where boot drivers first steps before refused next =
    option_map_or (λ more. []) refused (first ∷ option_map_or (λ p. taken boot drivers steps p) next [])

none_taken : (boot : Booted) (drivers : Drivers) (steps : List Step) (before : NotifyPlay) (more : ℕ)
    → before.play.refused ≡ Some more → taken boot drivers steps before ≡ []
none_taken boot drivers [] before more is = refl
none_taken boot drivers (first ∷ steps) before more is =
    ap (λ (o : Option ℕ). taken_where boot drivers first steps before o (after_step boot drivers first before)) is

first_taken : (boot : Booted) (drivers : Drivers) (first : Step) (steps : List Step) (before next : NotifyPlay)
    → before.play.refused ≡ None → after_step boot drivers first before ≡ Some next
    → taken boot drivers (first ∷ steps) before ≡ first ∷ taken boot drivers steps next
first_taken boot drivers first steps before next is e =
    ap (λ (o : Option ℕ). taken_where boot drivers first steps before o (after_step boot drivers first before)) is
    ∙ ap (λ (o : Option NotifyPlay). taken_where boot drivers first steps before None o) e

-- where an entry was refused, nothing comes behind it
pub refused_stays : (boot : Booted) (drivers : Drivers) (steps : List Step) (before after : NotifyPlay) (more : ℕ)
    → before.play.refused ≡ Some more → after_steps boot drivers steps before ≡ Some after → before ≡ after
refused_stays boot drivers [] before after more is e = cc
refused_stays boot drivers (first ∷ steps) before after more is e =
    refused_stays boot drivers steps before after more is
    (sym
    (ap (λ (o : Option ℕ).
    option_and_then (λ next. after_steps boot drivers steps next)
    (option_map_or (λ more. Some before) o (after_step boot drivers first before))) is) ∙ e)

-- ---- the law

-- what the law says of steps
abbrev Called : Booted → Drivers → List Step → NotifyPlay → NotifyPlay → Type 0
Called boot drivers steps before after =
    CallsBetween (signalled (taken boot drivers steps before)) before after
    × (after.play.refused ≡ None → taken boot drivers steps before ≡ steps)

-- of steps at a play where an entry was refused, and where none was
called_where : (boot : Booted) (drivers : Drivers) (first : Step) (steps : List Step) (before after : NotifyPlay)
    (refused : Option ℕ) → before.play.refused ≡ refused
    → after_steps boot drivers (first ∷ steps) before ≡ Some after
    → ((next : NotifyPlay) → after_steps boot drivers steps next ≡ Some after → Called boot drivers steps next after)
    → Called boot drivers (first ∷ steps) before after
called_where boot drivers first steps before after (Some more) is e behind =
    let same = refused_stays boot drivers (first ∷ steps) before after more is e in
    let none = none_taken boot drivers (first ∷ steps) before more is in
    let there : CallsBetween [] before after = subst (CallsBetween [] before) same (none_between before before refl refl) in (
      subst (λ (some : List Step). CallsBetween (signalled some) before after) (sym none) there,
      λ (not : after.play.refused ≡ None).
          let both : before.play.refused ≡ None = ap (λ (p : NotifyPlay). p.play.refused) same ∙ not in
          absurd cc,
    )
called_where boot drivers first steps before after None is e behind =
    let onward : option_and_then (λ next. after_steps boot drivers steps next) (after_step boot drivers first before)
    ≡ Some after = sym
    (ap (λ (o : Option ℕ).
    option_and_then (λ next. after_steps boot drivers steps next)
    (option_map_or (λ more. Some before) o (after_step boot drivers first before))) is) ∙ e in
    option_and_then_some (λ next. after_steps boot drivers steps next) (after_step boot drivers first before) after onward
    (λ (next : NotifyPlay) came rest.
    let called = behind next rest in
    let one = first_taken boot drivers first steps before next is came in (
      subst (λ (some : List Step). CallsBetween (signalled some) before after) (sym one)
          (step_between boot drivers first (taken boot drivers steps next) before next after came called.0),
      λ (not : after.play.refused ≡ None). one ∙ ap (λ (some : List Step). first ∷ some) (called.1 not),
    ))

pub steps_call_desk : StepsCallDesk
steps_call_desk boot drivers [] before after e =
    let same : before ≡ after = cc in
    (subst (CallsBetween [] before) same (none_between before before refl refl), λ not. refl)
steps_call_desk boot drivers (first ∷ steps) before after e =
    called_where boot drivers first steps before after before.play.refused refl e
    (λ (next : NotifyPlay) rest. steps_call_desk boot drivers steps next after rest)
