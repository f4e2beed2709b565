-- Processors and slots fit together in each kernel of a legal history; and the events of other processors leave a
-- processor's part and its call as they are.
use Rattle.std.proofs.Common.{◌≡◌, ℕ, zero, suc, Bool, true, false, List, [], ◌∷◌, Option, Some, None, refl, ap, subst, sym, ◌∙◌}
use Rattle.std.specs.Prelude.{map, slice_get, slice_set, replicate, ◌||◌}
use Rattle.std.specs.List.{AllByRecursion}
use Rattle.std.specs.Option.{option_map}
use Rattle.std.proofs.lemmas.Option.{option_and_then_some}
use Rattle.event_journal.specs.declared.event.Event.{Event}
use Rattle.event_journal.specs.declared.event.Event.TheVariants as event
use Rattle.kernel_model.specs.Application.{Booted}
use Rattle.kernel_model.specs.Argument.{client_in, thread_in}
use Rattle.kernel_model.specs.Decision.{Taken, Takes}
use Rattle.kernel_model.specs.Entry.{after_decision}
use Rattle.kernel_model.specs.Exit.{goes_out_from, slot_left}
use Rattle.kernel_model.specs.History.{IsLater, after_event, after_events, kernel_after}
use Rattle.kernel_model.specs.Kernel.{Active, Cancel, Fixed, Free, InSlot, Inside, Kernel, Outside, PendingCall, Processor, Progress, Suspended, ThreadSlot, Visit, cancelled_call, cancelled_slot, cancelled_slots, first_kernel, is_meant}
use Rattle.kernel_model.specs.Laws.{IsOfOther}
use Rattle.kernel_model.specs.Leaving.{leaving_of}
use Rattle.kernel_model.specs.Sound.{Always, AreAtWork, IsWorkedOn, OthersStayAway, StaysInside, unmarked}
use Rattle.kernel_model.proofs.Parts.{set_found, set_other, set_then_read}
use Rattle.kernel_model.specs.Turns.{cpu_of}
use Rattle.kernel_model.proofs.SoundEvents.{ComesIn, EventCases, after_one, holds_after, resumed_taken}
use Rattle.kernel_model.proofs.SoundExits.{IsLeft, left_for, left_so}
use Rattle.kernel_model.proofs.SoundNewCalls.{all_cases}
use Rattle.kernel_model.proofs.SoundSlots.{by_number, free_there, plain, still_held, was_held}

-- ---- what an entry takes

-- no processor works on what a slot holds
abbrev IsIdle : ThreadSlot → Type 0
IsIdle Free = Unit {0}
IsIdle (Active cpu call) = ⊥
IsIdle (Suspended client call) = Unit {0}

idle_worked : (held : ThreadSlot) (cpu : ℕ) (call : PendingCall) → IsIdle held → Some held ≡ Some (Active cpu call) → ⊥
idle_worked Free cpu call idle e = cc
idle_worked (Active worker other) cpu call idle e = idle
idle_worked (Suspended client other) cpu call idle e = cc

not_idle : (slots : List ThreadSlot) (slot cpu : ℕ) (held : ThreadSlot) → slice_get slots slot ≡ Some held → IsIdle held → IsWorkedOn slots slot cpu → ⊥
not_idle slots slot cpu held there idle worked = idle_worked held cpu worked.0 idle (sym there ∙ worked.1)

active_now : (now : ThreadSlot) (cpu : ℕ) (call : PendingCall) → plain now ≡ plain (Active cpu call) → (other : PendingCall) × (now ≡ Active cpu other)
active_now Free cpu call e = absurd cc
active_now (Active worker other) cpu call e = let same : worker ≡ cpu = cc in (other, ap (λ (w : ℕ). Active w other) same)
active_now (Suspended client other) cpu call e = absurd cc

suspended_now : (now : ThreadSlot) (client : ℕ) (call : PendingCall) → plain now ≡ plain (Suspended client call)
    → (other : PendingCall) × (now ≡ Suspended client other) × (unmarked other ≡ unmarked call)
suspended_now Free client call e = absurd cc
suspended_now (Active worker other) client call e = absurd cc
suspended_now (Suspended owner other) client call e = let same : owner ≡ client = cc in (other, ap (λ (c : ℕ). Suspended c other) same, cc)

worked_still : (slots : List ThreadSlot) (cancels : Option Cancel) (slot cpu : ℕ) → IsWorkedOn slots slot cpu → IsWorkedOn (cancelled_slots slots cancels) slot cpu
worked_still slots cancels slot cpu worked =
    let still = still_held slots cancels slot (Active cpu worked.0) worked.1 in
    let now = active_now still.0 cpu worked.0 still.2 in
    (now.0, still.1 ∙ ap (λ (held : ThreadSlot). Some held) now.1)

worked_was : (slots : List ThreadSlot) (cancels : Option Cancel) (slot cpu : ℕ) (call : PendingCall)
    → slice_get (cancelled_slots slots cancels) slot ≡ Some (Active cpu call) → IsWorkedOn slots slot cpu
worked_was slots cancels slot cpu call there =
    let was = was_held slots cancels slot (Active cpu call) there in
    let now = active_now was.0 cpu call was.2 in
    (now.0, was.1 ∙ ap (λ (held : ThreadSlot). Some held) now.1)

same_inside : (regs other : List ℕ) (steps more : ℕ) (slot from : ℕ) → Inside regs steps (InSlot slot) ≡ Inside other more (InSlot from) → slot ≡ from
same_inside regs other steps more slot from e = cc

same_active : (cpu other : ℕ) (call another : PendingCall) → Active cpu call ≡ Active other another → cpu ≡ other
same_active cpu other call another e = cc

outside_inside : (processors : List Processor) (cpu steps slot : ℕ) (regs : List ℕ) → slice_get processors cpu ≡ Some Outside
    → slice_get processors cpu ≡ Some (Inside regs steps (InSlot slot)) → ⊥
outside_inside processors cpu steps slot regs outside inside = different (sym outside ∙ inside)
  where
    different : Some Outside ≡ Some (Inside regs steps (InSlot slot)) → ⊥
    different e = cc

outside_is : (regs : List ℕ) (steps slot : ℕ) → Outside ≡ Inside regs steps (InSlot slot) → ⊥
outside_is regs steps slot e = cc

-- the slot of an idle one is taken, by a processor that was outside
taken_work : (kernel : Kernel) (cpu : ℕ) (visit : Visit) (slot : ℕ) (taken : Taken) (held : ThreadSlot) → AreAtWork kernel → ComesIn kernel cpu visit
    → slice_get kernel.slots slot ≡ Some held → IsIdle held → AreAtWork (after_decision kernel visit (Takes slot taken))
taken_work kernel cpu visit slot taken held sound inside there idle = record {
  work = λ worker at steps regs is.
      by_number visit.cpu worker
      (λ same.
      let its : Inside visit.regs visit.steps (InSlot slot) ≡ Inside regs steps (InSlot at) =
      set_then_read kernel.processors visit.cpu mine (Inside regs steps (InSlot at))
      (subst (λ (n : ℕ). slice_get (slice_set kernel.processors visit.cpu mine) n ≡ Some (Inside regs steps (InSlot at))) (sym same) is) in
      let here = same_inside visit.regs regs visit.steps steps slot at its in
      subst (λ (n : ℕ). IsWorkedOn after n worker) here (subst (λ (n : ℕ). IsWorkedOn after slot n) same (taken.call, now_there)))
      (λ apart.
      let was = sound.work worker at steps regs (sym (set_other kernel.processors visit.cpu worker mine apart) ∙ is) in
      let elsewhere : slot ≡ at → ⊥ = λ same. not_idle kernel.slots slot worker held there idle (subst (λ (n : ℕ). IsWorkedOn kernel.slots n worker) (sym same) was) in
      let still = worked_still kernel.slots taken.cancels at worker was in
      (still.0, set_other marked slot at (Active visit.cpu taken.call) elsewhere ∙ still.1));
  worked = λ worker at call is.
      by_number slot at
      (λ same.
      let its : Active visit.cpu taken.call ≡ Active worker call =
      set_then_read marked slot (Active visit.cpu taken.call) (Active worker call)
      (subst (λ (n : ℕ). slice_get after n ≡ Some (Active worker call)) (sym same) is) in
      let who = same_active visit.cpu worker taken.call call its in
      record {
        regs = visit.regs;
        steps = visit.steps;
        inside = ap (λ (n : ℕ). slice_get (slice_set kernel.processors visit.cpu mine) n) (sym who)
            ∙ set_found kernel.processors visit.cpu mine Outside inside.outside
            ∙ ap (λ (n : ℕ). Some (Inside visit.regs visit.steps (InSlot n))) same;
      })
      (λ apart.
      let was = worked_was kernel.slots taken.cancels at worker call (sym (set_other marked slot at (Active visit.cpu taken.call) apart) ∙ is) in
      let works = sound.worked worker at was.0 was.1 in
      let elsewhere : visit.cpu ≡ worker → ⊥ = λ same. outside_inside kernel.processors worker works.steps at works.regs
      (subst (λ (n : ℕ). slice_get kernel.processors n ≡ Some Outside) same inside.outside) works.inside in
      record {
        regs = works.regs;
        steps = works.steps;
        inside = set_other kernel.processors visit.cpu worker mine elsewhere ∙ works.inside;
      });
  clients = λ at client call is.
      by_number slot at
      (λ same.
      let its : Active visit.cpu taken.call ≡ Suspended client call =
      set_then_read marked slot (Active visit.cpu taken.call) (Suspended client call)
      (subst (λ (n : ℕ). slice_get after n ≡ Some (Suspended client call)) (sym same) is) in absurd cc)
      (λ apart.
      let was = was_held kernel.slots taken.cancels at (Suspended client call) (sym (set_other marked slot at (Active visit.cpu taken.call) apart) ∙ is) in
      let before = suspended_now was.0 client call was.2 in
      sound.clients at client before.0 (was.1 ∙ ap (λ (h : ThreadSlot). Some h) before.1) ∙ ap (λ (c : PendingCall). c.client) before.2);
}
  where
    mine : Processor
    mine = Inside visit.regs visit.steps (InSlot slot)

    marked : List ThreadSlot
    marked = cancelled_slots kernel.slots taken.cancels

    after : List ThreadSlot
    after = slice_set marked slot (Active visit.cpu taken.call)

    now_there : slice_get after slot ≡ Some (Active visit.cpu taken.call)
    now_there =
        let still = still_held kernel.slots taken.cancels slot held there in
        set_found marked slot (Active visit.cpu taken.call) still.0 still.1

-- ---- each kind of event

none_active : (count slot cpu : ℕ) (call : PendingCall) → slice_get (replicate count Free) slot ≡ Some (Active cpu call) → ⊥
none_active zero slot cpu call e = cc
none_active (suc count) zero cpu call e = cc
none_active (suc count) (suc slot) cpu call e = none_active count slot cpu call e

none_suspended : (count slot client : ℕ) (call : PendingCall) → slice_get (replicate count Free) slot ≡ Some (Suspended client call) → ⊥
none_suspended zero slot client call e = cc
none_suspended (suc count) zero client call e = cc
none_suspended (suc count) (suc slot) client call e = none_suspended count slot client call e

none_inside : (count cpu steps slot : ℕ) (regs : List ℕ) → slice_get (replicate count Outside) cpu ≡ Some (Inside regs steps (InSlot slot)) → ⊥
none_inside zero cpu steps slot regs e = cc
none_inside (suc count) zero steps slot regs e = cc
none_inside (suc count) (suc cpu) steps slot regs e = none_inside count cpu steps slot regs e

first_work : (boot : Booted) → AreAtWork (first_kernel boot)
first_work boot = record {
  work = λ cpu slot steps regs e. absurd (none_inside boot.cpus cpu steps slot regs e);
  worked = λ cpu slot call e. absurd (none_active boot.threads slot cpu call e);
  clients = λ slot client call e. absurd (none_suspended boot.threads slot client call e);
}

-- a processor that isn't inside for a slot, before and after, may change
other_work : (kernel : Kernel) (cpu : ℕ) (was now : Processor) → slice_get kernel.processors cpu ≡ Some was
    → ((regs : List ℕ) (steps slot : ℕ) → was ≡ Inside regs steps (InSlot slot) → ⊥)
    → ((regs : List ℕ) (steps slot : ℕ) → now ≡ Inside regs steps (InSlot slot) → ⊥)
    → AreAtWork kernel → AreAtWork (record kernel { processors = slice_set kernel.processors cpu now })
other_work kernel cpu was now there before after sound = record {
  work = λ worker slot steps regs is.
      by_number cpu worker
      (λ same. absurd (after regs steps slot (set_then_read kernel.processors cpu now (Inside regs steps (InSlot slot))
      (subst (λ (n : ℕ). slice_get (slice_set kernel.processors cpu now) n ≡ Some (Inside regs steps (InSlot slot))) (sym same) is))))
      (λ apart. sound.work worker slot steps regs (sym (set_other kernel.processors cpu worker now apart) ∙ is));
  worked = λ worker slot call is.
      let works = sound.worked worker slot call is in
      let elsewhere : cpu ≡ worker → ⊥ = λ same. before works.regs works.steps slot
      (some_same was (Inside works.regs works.steps (InSlot slot)) (sym there ∙ ap (λ (n : ℕ). slice_get kernel.processors n) same ∙ works.inside)) in
      record { regs = works.regs; steps = works.steps; inside = set_other kernel.processors cpu worker now elsewhere ∙ works.inside };
  clients = sound.clients;
}
  where
    some_same : (one other : Processor) → Some one ≡ Some other → one ≡ other
    some_same one other e = cc

gone_work : (kernel : Kernel) (visit : Visit) (slot worker : ℕ) (call : PendingCall) (left : ThreadSlot) → AreAtWork kernel
    → slice_get kernel.processors visit.cpu ≡ Some (Inside visit.regs visit.steps (InSlot slot)) → slice_get kernel.slots slot ≡ Some (Active worker call)
    → IsLeft left
    → AreAtWork (record kernel { slots = slice_set kernel.slots slot left; processors = slice_set kernel.processors visit.cpu Outside })
gone_work kernel visit slot worker call left sound inside there is_left = record {
  work = λ cpu at steps regs is.
      by_number visit.cpu cpu
      (λ same. absurd (outside_is regs steps at (set_then_read kernel.processors visit.cpu Outside (Inside regs steps (InSlot at))
      (subst (λ (n : ℕ). slice_get (slice_set kernel.processors visit.cpu Outside) n ≡ Some (Inside regs steps (InSlot at))) (sym same) is))))
      (λ apart.
      let was = sound.work cpu at steps regs (sym (set_other kernel.processors visit.cpu cpu Outside apart) ∙ is) in
      let elsewhere : slot ≡ at → ⊥ = λ same. apart (workers_same (sound.work visit.cpu slot visit.steps visit.regs inside)
      (subst (λ (n : ℕ). IsWorkedOn kernel.slots n cpu) (sym same) was)) in
      (was.0, set_other kernel.slots slot at left elsewhere ∙ was.1));
  worked = λ cpu at now is.
      by_number slot at
      (λ same. absurd (never_active left cpu now is_left (set_then_read kernel.slots slot left (Active cpu now)
      (subst (λ (n : ℕ). slice_get (slice_set kernel.slots slot left) n ≡ Some (Active cpu now)) (sym same) is))))
      (λ apart.
      let works = sound.worked cpu at now (sym (set_other kernel.slots slot at left apart) ∙ is) in
      let elsewhere : visit.cpu ≡ cpu → ⊥ = λ same. apart (slots_same visit.regs works.regs visit.steps works.steps slot at
      (sym inside ∙ ap (λ (n : ℕ). slice_get kernel.processors n) same ∙ works.inside)) in
      record { regs = works.regs; steps = works.steps; inside = set_other kernel.processors visit.cpu cpu Outside elsewhere ∙ works.inside });
  clients = λ at client now is.
      by_number slot at
      (λ same. left_for left client now (set_then_read kernel.slots slot left (Suspended client now)
      (subst (λ (n : ℕ). slice_get (slice_set kernel.slots slot left) n ≡ Some (Suspended client now)) (sym same) is)) is_left)
      (λ apart. sound.clients at client now (sym (set_other kernel.slots slot at left apart) ∙ is));
}
  where
    workers_same : {one other : ℕ} → IsWorkedOn kernel.slots slot one → IsWorkedOn kernel.slots slot other → one ≡ other
    workers_same {one} {other} first second = active_same one other first.0 second.0 (sym first.1 ∙ second.1)
      where
        active_same : (one other : ℕ) (call another : PendingCall) → Some (Active one call) ≡ Some (Active other another) → one ≡ other
        active_same one other call another e = cc

    slots_same : (regs other : List ℕ) (steps more from at : ℕ) → Some (Inside regs steps (InSlot from)) ≡ Some (Inside other more (InSlot at)) → from ≡ at
    slots_same regs other steps more from at e = cc

    never_active : (held : ThreadSlot) (cpu : ℕ) (now : PendingCall) → IsLeft held → held ≡ Active cpu now → ⊥
    never_active Free cpu now is e = cc
    never_active (Active other one) cpu now is e = is
    never_active (Suspended client one) cpu now is e = cc

work_cases : (boot : Booted) (kernel : Kernel) (cpu : ℕ) → AreAtWork kernel → EventCases boot kernel cpu AreAtWork
work_cases boot kernel cpu sound = record {
  answered = λ visit answer inside.
      other_work kernel visit.cpu Outside (Inside visit.regs visit.steps (Fixed answer)) inside.outside
      (λ regs steps slot e. cc) (λ regs steps slot e. cc) sound;
  comes = λ visit slot found bytes inside free lies fits.
      all_cases _ _ (λ taken. taken_work kernel cpu visit slot taken Free sound inside (free_there kernel.slots slot free) tt);
  resumes = λ visit call given inside there offered.
      taken_work kernel cpu visit (thread_in visit.regs) (resumed_taken boot kernel visit call given) (Suspended (client_in visit.regs) call) sound inside there tt;
  told = λ visit answer its fixed.
      other_work kernel visit.cpu (Inside visit.regs visit.steps (Fixed answer)) Outside fixed
      (λ regs steps slot e. cc) (λ regs steps slot e. cc) sound;
  goes = λ visit slot worker call progress its inside there e.
      let gone = gone_work kernel visit slot worker call (slot_left progress.call (leaving_of slot progress.call)) sound inside there
      (left_so slot progress.call) in
      record { work = gone.work; worked = gone.worked; clients = gone.clients };
}

pub works : (boot : Booted) (history : List Event) (kernel : Kernel) → kernel_after boot history ≡ Some kernel → AreAtWork kernel
works boot history kernel e =
    holds_after boot (λ events k. AreAtWork k) (record {
      first = first_work boot;
      onward = λ events k cpu sound. work_cases boot k cpu sound;
    }) history kernel e

-- ---- the events of other processors

get_mapped : (slots : List ThreadSlot) (i : ℕ) (f : ThreadSlot → ThreadSlot) → slice_get (map f slots) i ≡ option_map f (slice_get slots i)
get_mapped [] i f = refl
get_mapped (first ∷ slots) zero f = refl
get_mapped (first ∷ slots) (suc i) f = get_mapped slots i f

mark_stays : (meant marked : Bool) → marked ≡ true → (meant || marked) ≡ true
mark_stays true marked e = refl
mark_stays false marked e = e

same_later : (call : PendingCall) → IsLater call call
same_later call = record { same = refl; stays = λ e. e }

both_later : (call mid now : PendingCall) → IsLater call mid → IsLater mid now → IsLater call now
both_later call mid now first second = record {
  same = second.same ∙ ap (λ (c : PendingCall). record c { marked = now.marked }) first.same;
  stays = λ e. second.stays (first.stays e);
}

-- the call that a processor works on, once calls are cancelled
record StillActive (slots : List ThreadSlot) (slot cpu : ℕ) (call : PendingCall) : Type 0 where
  now : PendingCall
  active : slice_get slots slot ≡ Some (Active cpu now)
  later : IsLater call now

active_still : (slots : List ThreadSlot) (cancels : Option Cancel) (slot cpu : ℕ) (call : PendingCall) → slice_get slots slot ≡ Some (Active cpu call)
    → StillActive (cancelled_slots slots cancels) slot cpu call
active_still slots None slot cpu call there = record { now = call; active = there; later = same_later call }
active_still slots (Some cancel) slot cpu call there = record {
  now = cancelled_call cancel call;
  active = get_mapped slots slot (cancelled_slot cancel) ∙ ap (λ (o : Option ThreadSlot). option_map (cancelled_slot cancel) o) there;
  later = record { same = refl; stays = mark_stays (is_meant cancel call) call.marked };
}

-- what is known of the processor that stays
record Worker (kernel : Kernel) (cpu slot steps : ℕ) (regs : List ℕ) (call : PendingCall) : Type 0 where
  sound : AreAtWork kernel
  inside : slice_get kernel.processors cpu ≡ Some (Inside regs steps (InSlot slot))
  active : slice_get kernel.slots slot ≡ Some (Active cpu call)

taken_apart : (kernel : Kernel) (visit : Visit) (at : ℕ) (taken : Taken) (held : ThreadSlot) (cpu slot steps : ℕ) (regs : List ℕ) (call : PendingCall)
    → (visit.cpu ≡ cpu → ⊥) → Worker kernel cpu slot steps regs call → slice_get kernel.slots at ≡ Some held → IsIdle held
    → StaysInside (after_decision kernel visit (Takes at taken)) cpu slot steps regs call
taken_apart kernel visit at taken held cpu slot steps regs call apart worker there idle =
    let elsewhere : at ≡ slot → ⊥ = λ same. not_idle kernel.slots at cpu held there idle (subst (λ (n : ℕ). IsWorkedOn kernel.slots n cpu) (sym same) (call, worker.active)) in
    let still = active_still kernel.slots taken.cancels slot cpu call worker.active in
    record {
      inside = set_other kernel.processors visit.cpu cpu (Inside visit.regs visit.steps (InSlot at)) apart ∙ worker.inside;
      now = still.now;
      active = set_other (cancelled_slots kernel.slots taken.cancels) at slot (Active visit.cpu taken.call) elsewhere ∙ still.active;
      later = still.later;
    }

moved_apart : (kernel : Kernel) (visit : Visit) (now : Processor) (cpu slot steps : ℕ) (regs : List ℕ) (call : PendingCall) → (visit.cpu ≡ cpu → ⊥)
    → Worker kernel cpu slot steps regs call
    → StaysInside (record kernel { processors = slice_set kernel.processors visit.cpu now }) cpu slot steps regs call
moved_apart kernel visit now cpu slot steps regs call apart worker = record {
  inside = set_other kernel.processors visit.cpu cpu now apart ∙ worker.inside;
  now = call;
  active = worker.active;
  later = same_later call;
}

gone_apart : (kernel : Kernel) (visit : Visit) (at other : ℕ) (gone call : PendingCall) (progress : Progress) (cpu slot steps : ℕ) (regs : List ℕ)
    → (visit.cpu ≡ cpu → ⊥) → Worker kernel cpu slot steps regs call
    → slice_get kernel.processors visit.cpu ≡ Some (Inside visit.regs visit.steps (InSlot at)) → slice_get kernel.slots at ≡ Some (Active other gone)
    → StaysInside (goes_out_from kernel visit at progress).kernel cpu slot steps regs call
gone_apart kernel visit at other gone call progress cpu slot steps regs apart worker inside there =
    let mine = worker.sound.work visit.cpu at visit.steps visit.regs inside in
    let elsewhere : at ≡ slot → ⊥ = λ same. apart (active_one visit.cpu cpu mine.0 call
    (sym mine.1 ∙ ap (λ (n : ℕ). slice_get kernel.slots n) same ∙ worker.active)) in
    record {
      inside = set_other kernel.processors visit.cpu cpu Outside apart ∙ worker.inside;
      now = call;
      active = set_other kernel.slots at slot (slot_left progress.call (leaving_of at progress.call)) elsewhere ∙ worker.active;
      later = same_later call;
    }
  where
    active_one : (one another : ℕ) (first second : PendingCall) → Some (Active one first) ≡ Some (Active another second) → one ≡ another
    active_one one another first second e = cc

apart_cases : (boot : Booted) (kernel : Kernel) (other cpu slot steps : ℕ) (regs : List ℕ) (call : PendingCall) → (other ≡ cpu → ⊥)
    → Worker kernel cpu slot steps regs call → EventCases boot kernel other (λ next. StaysInside next cpu slot steps regs call)
apart_cases boot kernel other cpu slot steps regs call apart worker = record {
  answered = λ visit answer inside.
      moved_apart kernel visit (Inside visit.regs visit.steps (Fixed answer)) cpu slot steps regs call (from visit inside.its) worker;
  comes = λ visit at found bytes inside free lies fits.
      all_cases _ _ (λ taken. taken_apart kernel visit at taken Free cpu slot steps regs call (from visit inside.its) worker (free_there kernel.slots at free) tt);
  resumes = λ visit held given inside there offered.
      taken_apart kernel visit (thread_in visit.regs) (resumed_taken boot kernel visit held given) (Suspended (client_in visit.regs) held) cpu slot steps regs call (from visit inside.its) worker there tt;
  told = λ visit answer its fixed. moved_apart kernel visit Outside cpu slot steps regs call (from visit its) worker;
  goes = λ visit at who gone progress its inside there e.
      gone_apart kernel visit at who gone call progress cpu slot steps regs (from visit its) worker inside there;
}
  where
    from : (visit : Visit) → visit.cpu ≡ other → visit.cpu ≡ cpu → ⊥
    from visit its same = apart (sym its ∙ same)

of_other : (cpu : ℕ) (happened : Event) → IsOfOther cpu happened → cpu_of happened ≡ cpu → ⊥
of_other cpu (event.Entry came regs steps reads) other = other
of_other cpu (event.Exit went regs) other = other

others_one : (boot : Booted) (kernel next : Kernel) (happened : Event) (cpu slot steps : ℕ) (regs : List ℕ) (call : PendingCall) → IsOfOther cpu happened
    → Worker kernel cpu slot steps regs call → after_event boot kernel happened ≡ Some next
    → AreAtWork next × StaysInside next cpu slot steps regs call
others_one boot kernel next happened cpu slot steps regs call other worker e = (
  after_one boot kernel next AreAtWork happened (work_cases boot kernel (cpu_of happened) worker.sound) e,
  after_one boot kernel next (λ k. StaysInside k cpu slot steps regs call) happened
      (apart_cases boot kernel (cpu_of happened) cpu slot steps regs call (of_other cpu happened other) worker) e,
)

others_all : (boot : Booted) (kernel last : Kernel) (events : List Event) (cpu slot steps : ℕ) (regs : List ℕ) (call : PendingCall)
    → AllByRecursion (IsOfOther cpu) events → Worker kernel cpu slot steps regs call → after_events boot kernel events ≡ Some last
    → StaysInside last cpu slot steps regs call
others_all boot kernel last [] cpu slot steps regs call others worker e =
    let is : kernel ≡ last = cc in
    subst (λ (k : Kernel). StaysInside k cpu slot steps regs call) is
    (record { inside = worker.inside; now = call; active = worker.active; later = same_later call })
others_all boot kernel last (happened ∷ events) cpu slot steps regs call others worker e =
    option_and_then_some (λ k. after_events boot k events) (after_event boot kernel happened) last e
    (λ (next : Kernel) there onward.
    let one = others_one boot kernel next happened cpu slot steps regs call others.0 worker there in
    let rest = others_all boot next last events cpu slot steps regs one.1.now others.1
    (record { sound = one.0; inside = one.1.inside; active = one.1.active }) onward in
    record { inside = rest.inside; now = rest.now; active = rest.active; later = both_later call one.1.now rest.now one.1.later rest.later })

pub others_stay_away : OthersStayAway
others_stay_away boot before between kernel last cpu slot steps regs call there others e inside active =
    others_all boot kernel last between cpu slot steps regs call others
    (record { sound = works boot before kernel there; inside = inside; active = active }) e

pub kernels_at_work : Always (λ boot kernel. AreAtWork kernel)
kernels_at_work boot history kernel booted e = works boot history kernel e
