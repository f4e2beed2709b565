-- What other processors do leaves a processor's work its own, and its run can leave.
use Rattle.std.proofs.Common.{◌≡◌, ℕ, List, [], ◌∷◌, ◌++◌, Option, Some, None, Bool, refl, ap, sym, subst, ◌∙◌, append_assoc}
use Rattle.std.proofs.Math.Logic.{∥∥₁_map}
use Rattle.std.specs.Prelude.{IsSomeAnd, slice_get}
use Rattle.std.specs.List.{AllByRecursion}
use Rattle.event_journal.specs.declared.event.Event.{Event}
use Rattle.event_journal.specs.declared.event.Event.TheVariants as event
use Rattle.kernel_model.specs.Application.{Booted}
use Rattle.kernel_model.specs.History.{IsLater, IsLegal, after_events, kernel_after}
use Rattle.kernel_model.specs.Kernel.{Active, Asks, CallPhase, Ends, Fixed, Free, InSlot, Inside, Kernel, Outside, PendingCall, Processor, Runs, Suspended, ThreadSlot, Waits}
use Rattle.kernel_model.specs.Laws.{IsOfOther}
use Rattle.kernel_model.proofs.Answered.{events_stay}
use Rattle.kernel_model.proofs.Parts.{some_of}
use Rattle.kernel_model.proofs.SoundWork.{others_stay_away}
use Rattle.kernel_state.specs.Entering.{HasWork, HasWorkAfter}
use Rattle.kernel_state.specs.Leaving.{CanLeave, CanLeaveAfter}
use Rattle.kernel_state.specs.Laws.{ChangedByOthers, GoesOnByOthers, WorkCanLeave, WorkStays, WorkStaysOnward}
use Rattle.kernel_state.specs.Meaning.{booted_of, events_of}
use Rattle.kernel_state.specs.Work.{IsCarriedAs, IsCarriedFor, IsRanFor, IsRanOf, IsWorkIn, IsWorkOf}
use Rattle.kernel_state.specs.declared.carried.Carried.{Carried}
use Rattle.kernel_state.specs.declared.carried.Carried.TheVariants.{Nothing, Resting, Running}
use Rattle.kernel_state.specs.declared.kernel_core.Core.{Core}
use Rattle.kernel_state.specs.declared.work.Ran.{Ran}
use Rattle.kernel_state.specs.declared.work.Work.{Work}
use Rattle.kernel_state.proofs.Cancelling.{is_call_with_mark}
use Rattle.kernel_state.proofs.CoreEvents.{core_is_legal, events_onward}

-- ---- what is carried

carried_with_mark : (carried : Carried) (call : PendingCall) (marked : Bool) (phase : CallPhase) → IsCarriedAs carried call phase →
    IsCarriedAs carried (record call { marked = marked }) phase
carried_with_mark (Running cont) call marked (Runs job) is = is_call_with_mark marked cont.value call is
carried_with_mark (Resting cont) call marked (Asks job wanted payload) is = is_call_with_mark marked cont.value call is
carried_with_mark (Resting cont) call marked (Waits params) is = is_call_with_mark marked cont.value call is
carried_with_mark (Resting cont) call marked (Ends result params told wakes) is = is_call_with_mark marked cont.value call is
carried_with_mark (Resting cont) call marked (Runs job) is = absurd is
carried_with_mark (Running cont) call marked (Asks job wanted payload) is = absurd is
carried_with_mark (Running cont) call marked (Waits params) is = absurd is
carried_with_mark (Running cont) call marked (Ends result params told wakes) is = absurd is
carried_with_mark Nothing call marked (Runs job) is = absurd is
carried_with_mark Nothing call marked (Asks job wanted payload) is = absurd is
carried_with_mark Nothing call marked (Waits params) is = absurd is
carried_with_mark Nothing call marked (Ends result params told wakes) is = absurd is

-- the call may have been cancelled since
pub carried_later : (carried : Carried) (call now : PendingCall) → IsLater call now → IsCarriedAs carried call call.phase →
    IsCarriedAs carried now now.phase
carried_later carried call now later is =
    subst (λ (c : PendingCall). IsCarriedAs carried c c.phase) (sym later.same)
    (carried_with_mark carried call now.marked call.phase is)

-- ---- the events of other processors

module _ (boot : Booted) (before between : List Event) (kernel last : Kernel) (work : Work) (there : kernel_after boot before ≡ Some kernel)
    (others : AllByRecursion (IsOfOther work.cpu) between) (onward : after_events boot kernel between ≡ Some last) where
  in_slot : (steps slot : ℕ) (regs : List ℕ) (held : Option ThreadSlot) → work.steps ≡ steps →
      slice_get kernel.processors work.cpu ≡ Some (Inside regs steps (InSlot slot)) → slice_get kernel.slots slot ≡ held →
      IsCarriedFor work.cpu work.call held → IsWorkOf last work
  in_slot steps slot regs None granted inside is carried = absurd carried
  in_slot steps slot regs (Some Free) granted inside is carried = absurd carried
  in_slot steps slot regs (Some (Suspended client call)) granted inside is carried = absurd carried
  in_slot steps slot regs (Some (Active worker call)) granted inside is carried =
      let active = is ∙ ap (λ (w : ℕ). Some (Active w call)) (sym carried.0) in
      let stays = others_stay_away boot before between kernel last work.cpu slot steps regs call there others onward inside active in
      let now : IsCarriedFor work.cpu work.call (Some (Active work.cpu stays.now)) =
      (refl, carried_later work.call call stays.now stays.later carried.1) in
      subst (IsWorkIn last work) (sym stays.inside) (granted, subst (IsCarriedFor work.cpu work.call) (sym stays.active) now)

  in_state : (state : Option Processor) → slice_get kernel.processors work.cpu ≡ state → IsWorkIn kernel work state → IsWorkOf last work
  in_state None is fits = absurd fits
  in_state (Some Outside) is fits = absurd fits
  in_state (Some (Inside regs steps (Fixed answer))) is fits =
      subst (IsWorkIn last work) (sym (events_stay boot kernel last work.cpu between others onward ∙ is)) fits
  in_state (Some (Inside regs steps (InSlot slot))) is fits =
      in_slot steps slot regs (slice_get kernel.slots slot) fits.0 is refl fits.1

  pub work_of_later : IsWorkOf kernel work → IsWorkOf last work
  work_of_later fits = in_state (slice_get kernel.processors work.cpu) refl fits

-- ---- histories

-- the kernel of a history, to which its work fits
record Fitting (boot : Booted) (history : List Event) (work : Work) : Type 0 where
  kernel : Kernel
  comes_to : kernel_after boot history ≡ Some kernel
  fits : IsWorkOf kernel work

fitting_of : (boot : Booted) (history : List Event) (work : Work) (o : Option Kernel) → kernel_after boot history ≡ o →
    IsSomeAnd o (λ kernel. IsWorkOf kernel work) → Fitting boot history work
fitting_of boot history work None is has = absurd has
fitting_of boot history work (Some kernel) is has = record { kernel = kernel; comes_to = is; fits = has }

has_work : (boot : Booted) (history : List Event) (work : Work) → Fitting boot history work →
    IsSomeAnd (kernel_after boot history) (λ kernel. IsWorkOf kernel work)
has_work boot history work fitting =
    subst (λ (o : Option Kernel). IsSomeAnd o (λ kernel. IsWorkOf kernel work)) (sym fitting.comes_to) fitting.fits

fitting_onward : (boot : Booted) (before history : List Event) (work : Work) → GoesOnByOthers boot before history work.cpu →
    Fitting boot before work → Fitting boot history work
fitting_onward boot before history work goes was =
    let now = some_of (kernel_after boot history) goes.legal.follows in
    let onward = events_onward boot boot before goes.between history was.kernel now.0 refl goes.is was.comes_to now.1 in
    record {
      kernel = now.0;
      comes_to = now.1;
      fits = work_of_later boot before goes.between was.kernel now.0 work was.comes_to goes.others onward was.fits;
    }

work_onward : (boot : Booted) (before history : List Event) (work : Work) → GoesOnByOthers boot before history work.cpu →
    HasWorkAfter boot before work → HasWorkAfter boot history work
work_onward boot before history work goes has =
    ∥∥₁_map has (λ (is : IsSomeAnd (kernel_after boot before) (λ kernel. IsWorkOf kernel work)).
    has_work boot history work (fitting_onward boot before history work goes (fitting_of boot before work (kernel_after boot before) refl is)))

-- a work with its granted steps done can leave
run_of : (boot : Booted) (history : List Event) (work : Work) (ran : Ran) → IsRanOf work ran → Fitting boot history work →
    IsSomeAnd (kernel_after boot history) (λ kernel. IsRanFor kernel ran)
run_of boot history work ran run fitting =
    subst (λ (o : Option Kernel). IsSomeAnd o (λ kernel. IsRanFor kernel ran)) (sym fitting.comes_to)
    (record { work = work; fits = fitting.fits; has_run = run })

run_can_leave : (boot : Booted) (history : List Event) (work : Work) (ran : Ran) → HasWorkAfter boot history work →
    IsRanOf work ran → CanLeaveAfter boot history ran
run_can_leave boot history work ran has run =
    ∥∥₁_map has (λ (is : IsSomeAnd (kernel_after boot history) (λ kernel. IsWorkOf kernel work)).
    run_of boot history work ran run (fitting_of boot history work (kernel_after boot history) refl is))

run_onward : (boot : Booted) (before history : List Event) (ran : Ran) → GoesOnByOthers boot before history ran.cpu →
    (o : Option Kernel) → kernel_after boot before ≡ o → IsSomeAnd o (λ kernel. IsRanFor kernel ran) →
    IsSomeAnd (kernel_after boot history) (λ kernel. IsRanFor kernel ran)
run_onward boot before history ran goes None is can = absurd can
run_onward boot before history ran goes (Some kernel) is can =
    run_of boot history can.work ran can.has_run
    (fitting_onward boot before history can.work (subst (GoesOnByOthers boot before history) can.has_run.cpu goes)
    (record { kernel = kernel; comes_to = is; fits = can.fits }))

ran_onward : (boot : Booted) (before history : List Event) (ran : Ran) → GoesOnByOthers boot before history ran.cpu →
    CanLeaveAfter boot before ran → CanLeaveAfter boot history ran
ran_onward boot before history ran goes can =
    ∥∥₁_map can (λ (is : IsSomeAnd (kernel_after boot before) (λ kernel. IsRanFor kernel ran)).
    run_onward boot before history ran goes (kernel_after boot before) refl is)

pub work_stays_onward : WorkStaysOnward
work_stays_onward = record { work = work_onward; ran = ran_onward; has_run = run_can_leave }

-- ---- cores

goes_on : (old new : Core) (cpu : ℕ) → ChangedByOthers old new cpu → GoesOnByOthers (booted_of old) (events_of old) (events_of new) cpu
goes_on old new cpu changed = record {
  legal = subst (λ (boot : Booted). IsLegal boot (events_of new)) changed.boot (core_is_legal new);
  between = changed.between;
  others = changed.others;
  is = changed.events;
}

work_kept : (old new : Core) (work : Work) → ChangedByOthers old new work.cpu → HasWork old work → HasWork new work
work_kept old new work changed has =
    subst (λ (boot : Booted). HasWorkAfter boot (events_of new) work) (sym changed.boot)
    (work_onward (booted_of old) (events_of old) (events_of new) work (goes_on old new work.cpu changed) has)

ran_kept : (old new : Core) (ran : Ran) → ChangedByOthers old new ran.cpu → CanLeave old ran → CanLeave new ran
ran_kept old new ran changed can =
    subst (λ (boot : Booted). CanLeaveAfter boot (events_of new) ran) (sym changed.boot)
    (ran_onward (booted_of old) (events_of old) (events_of new) ran (goes_on old new ran.cpu changed) can)

all_append : (cpu : ℕ) (events more : List Event) → AllByRecursion (IsOfOther cpu) events → AllByRecursion (IsOfOther cpu) more →
    AllByRecursion (IsOfOther cpu) (events ++ more)
all_append cpu [] more all rest = rest
all_append cpu (first ∷ events) more all rest = (all.0, all_append cpu events more all.1 rest)

in_turn : (old mid new : Core) (cpu : ℕ) → ChangedByOthers old mid cpu → ChangedByOthers mid new cpu → ChangedByOthers old new cpu
in_turn old mid new cpu first second = record {
  boot = second.boot ∙ first.boot;
  terms = second.terms ∙ first.terms;
  between = first.between ++ second.between;
  others = all_append cpu first.between second.between first.others second.others;
  events = second.events ∙ ap (λ (events : List Event). events ++ second.between) first.events
      ∙ append_assoc (events_of old) first.between second.between;
}

pub works_stay : WorkStays
works_stay = record {
  entered = λ entry cpu apart. record {
    boot = entry.has_entered.boot;
    terms = entry.has_entered.terms;
    between = event.Entry entry.coming.cpu entry.coming.regs entry.coming.steps entry.has_entered.reads ∷ [];
    others = (apart, tt);
    events = entry.has_entered.events;
  };
  left = λ left cpu apart. record {
    boot = left.has_left.boot;
    terms = left.has_left.terms;
    between = event.Exit left.ran.cpu left.told ∷ [];
    others = (apart, tt);
    events = left.has_left.events;
  };
  in_turn = in_turn;
  work = work_kept;
  ran = ran_kept;
}

pub works_can_leave : WorkCanLeave
works_can_leave = record {
  at_once = λ entry ran run.
      run_can_leave (booted_of entry.new) (events_of entry.new) entry.work ran entry.has_entered.fits run;
  later = λ entry later ran changed run.
      run_can_leave (booted_of later) (events_of later) entry.work ran
      (work_kept entry.new later entry.work (subst (ChangedByOthers entry.new later) (sym entry.has_entered.cpu) changed) entry.has_entered.fits)
      run;
}
