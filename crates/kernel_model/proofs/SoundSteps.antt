-- How many slots and processors there are, and how many steps a call has done, after each event of a legal history.
use Rattle.std.proofs.Common.{◌≡◌, ℕ, zero, suc, ◌+◌, ◌*◌, ◌≤◌, Bool, true, false, List, [], ◌∷◌, length, Option, Some, None, refl, ap, subst, sym, ◌∙◌, arith}
use Rattle.std.specs.Prelude.{map, nat_le, slice_get, slice_set, replicate, ◌&&◌}
use Rattle.std.proofs.lemmas.Bool.Decides.{nat_tests}
use Rattle.std.proofs.lemmas.List.{length-set}
use Rattle.std.proofs.lemmas.Option.{option_and_then_some}
use Rattle.event_journal.specs.declared.event.Event.{Event}
use Rattle.event_journal.specs.declared.event.Event.TheVariants as event
use Rattle.job_model.specs.Job.{Job}
use Rattle.job_model.specs.Steps.{JobStop, Stopped, grant_of}
use Rattle.job_model.proofs.JobSteps.{granted-IsGrant}
use Rattle.kernel_model.specs.Application.{Booted}
use Rattle.kernel_model.specs.Argument.{client_in, thread_in}
use Rattle.kernel_model.specs.Decision.{Taken, Takes}
use Rattle.kernel_model.specs.Entry.{after_decision}
use Rattle.kernel_model.specs.Exit.{progress_of, slot_left}
use Rattle.kernel_model.specs.Given.{Buffer, Given, NoBuffer, Nothing, Reply, call_given}
use Rattle.kernel_model.specs.History.{after_event, after_events, can_be_granted}
use Rattle.kernel_model.specs.Kernel.{Active, Cancel, Free, InSlot, Inside, Kernel, Outside, PendingCall, Processor, Progress, Suspended, ThreadSlot, Visit, cancelled_slots, first_kernel}
use Rattle.kernel_model.specs.Leaving.{leaving_of}
use Rattle.kernel_model.specs.NewCall.{NewCall}
use Rattle.kernel_model.specs.Resume.{Resumed, onward_of, resumed_call, sees}
use Rattle.kernel_model.specs.Sound.{Always, AreAsMany, AreGranted, HasStepsAfter, StepsAreGranted}
use Rattle.kernel_model.specs.SoundSteps.{StepsAreOfEntries, entries_in}
use Rattle.kernel_model.proofs.Parts.{if-both, set_other, set_then_read}
use Rattle.kernel_model.proofs.SoundEvents.{ComesIn, EntryCases, EventCases, LeaveCases, after_entry_of, after_exit_of, holds_after, resumed_taken}
use Rattle.kernel_model.proofs.SoundExits.{exits_all, left_all}
use Rattle.kernel_model.proofs.SoundJoined.{some_same}
use Rattle.kernel_model.proofs.SoundNewCalls.{NewCases, all_cases, cases_onward}
use Rattle.kernel_model.proofs.SoundResumes.{resumes_all}
use Rattle.kernel_model.proofs.SoundSlots.{by_number, plain, was_held}

-- ---- how many there are

length-mapped : {X Y : Type 0} (f : X → Y) (xs : List X) → length (map f xs) ≡ length xs
length-mapped f [] = refl
length-mapped f (x ∷ xs) = ap suc (length-mapped f xs)

length-cancelled : (slots : List ThreadSlot) (cancels : Option Cancel) → length (cancelled_slots slots cancels) ≡ length slots
length-cancelled slots None = refl
length-cancelled slots (Some cancel) = length-mapped _ slots

length-replicated : {X : Type 0} (count : ℕ) (x : X) → length (replicate count x) ≡ count
length-replicated zero x = refl
length-replicated (suc count) x = ap suc (length-replicated count x)

many_cases : (boot : Booted) (kernel : Kernel) (cpu : ℕ) → AreAsMany boot kernel → EventCases boot kernel cpu (AreAsMany boot)
many_cases boot kernel cpu sound = record {
  answered = λ visit answer inside. record { slots = sound.slots; processors = length-set kernel.processors visit.cpu _ ∙ sound.processors };
  comes = λ visit slot found bytes inside free lies fits. all_cases _ _ (λ taken. taken_many visit slot taken);
  resumes = λ visit call given inside there offered. taken_many visit (thread_in visit.regs) (resumed_taken boot kernel visit call given);
  told = λ visit answer its fixed. record { slots = sound.slots; processors = length-set kernel.processors visit.cpu _ ∙ sound.processors };
  goes = λ visit slot worker call progress its inside there e.
      record { slots = length-set kernel.slots slot _ ∙ sound.slots; processors = length-set kernel.processors visit.cpu _ ∙ sound.processors };
}
  where
    taken_many : (visit : Visit) (slot : ℕ) (taken : Taken) → AreAsMany boot (after_decision kernel visit (Takes slot taken))
    taken_many visit slot taken = record {
      slots = length-set (cancelled_slots kernel.slots taken.cancels) slot (Active visit.cpu taken.call)
          ∙ length-cancelled kernel.slots taken.cancels ∙ sound.slots;
      processors = length-set kernel.processors visit.cpu (Inside visit.regs visit.steps (InSlot slot)) ∙ sound.processors;
    }

pub as_many : Always AreAsMany
as_many boot history kernel booted e =
    holds_after boot (λ events k. AreAsMany boot k) (record {
      first = record { slots = length-replicated boot.threads Free; processors = length-replicated boot.cpus Outside };
      onward = λ events k cpu sound. many_cases boot k cpu sound;
    }) history kernel e

-- ---- steps

more_than : (few many steps : ℕ) → few ≤ many → steps ≤ 1000000 * few → steps ≤ 1000000 * many
more_than few many steps le has = omega arith

later_steps : (few many : ℕ) (held : ThreadSlot) → few ≤ many → HasStepsAfter few held → HasStepsAfter many held
later_steps few many Free le has = tt
later_steps few many (Active cpu call) le has = more_than few many (call.steps + 1000000) le has
later_steps few many (Suspended client call) le has = more_than few many call.steps le has

later_granted : (few many : ℕ) (kernel : Kernel) → few ≤ many → AreGranted few kernel → AreGranted many kernel
later_granted few many kernel le sound = record {
  calls = λ slot held is. later_steps few many held le (sound.calls slot held is);
  grants = sound.grants;
}

one_more : (entries : ℕ) → entries ≤ entries + 1
one_more entries = omega arith

plain_steps : (events : ℕ) (held : ThreadSlot) → HasStepsAfter events held → HasStepsAfter events (plain held)
plain_steps events Free has = tt
plain_steps events (Active cpu call) has = has
plain_steps events (Suspended client call) has = has

steps_of_plain : (events : ℕ) (held : ThreadSlot) → HasStepsAfter events (plain held) → HasStepsAfter events held
steps_of_plain events Free has = tt
steps_of_plain events (Active cpu call) has = has
steps_of_plain events (Suspended client call) has = has

few_granted : (steps : ℕ) → can_be_granted steps ≡ true → steps ≤ 1000000
few_granted steps e = both (nat_le 1 steps) (nat_le steps 1000000) refl e
  where
    both : (some few : Bool) → nat_le steps 1000000 ≡ few → (some && few) ≡ true → steps ≤ 1000000
    both true true is e = grind (arith, nat_tests)
    both true false is e = absurd cc
    both false few is e = absurd cc

one_grant : (regs other : List ℕ) (steps more slot at : ℕ) → Inside regs steps (InSlot slot) ≡ Inside other more (InSlot at) → steps ≡ more
one_grant regs other steps more slot at e = cc

taken_steps : (events : ℕ) (kernel : Kernel) (cpu : ℕ) (visit : Visit) (slot : ℕ) (taken : Taken) → AreGranted events kernel → ComesIn kernel cpu visit
    → taken.call.steps ≤ 1000000 * events → AreGranted (events + 1) (after_decision kernel visit (Takes slot taken))
taken_steps events kernel cpu visit slot taken sound inside few = record {
  calls = λ at held is.
      by_number slot at
      (λ same.
      let its : Active visit.cpu taken.call ≡ held =
      set_then_read marked slot (Active visit.cpu taken.call) held
      (subst (λ (n : ℕ). slice_get (slice_set marked slot (Active visit.cpu taken.call)) n ≡ Some held) (sym same) is) in
      let now : HasStepsAfter (events + 1) (Active visit.cpu taken.call) = omega arith in
      subst (HasStepsAfter (events + 1)) its now)
      (λ apart.
      let was = was_held kernel.slots taken.cancels at held (sym (set_other marked slot at (Active visit.cpu taken.call) apart) ∙ is) in
      let before = plain_steps events was.0 (sound.calls at was.0 was.1) in
      later_steps events (events + 1) held (one_more events) (steps_of_plain events held (subst (HasStepsAfter events) was.2 before)));
  grants = λ worker at steps regs is.
      by_number visit.cpu worker
      (λ same.
      let its = set_then_read kernel.processors visit.cpu (Inside visit.regs visit.steps (InSlot slot)) (Inside regs steps (InSlot at))
      (subst (λ (n : ℕ). slice_get (slice_set kernel.processors visit.cpu (Inside visit.regs visit.steps (InSlot slot))) n ≡ Some (Inside regs steps (InSlot at))) (sym same) is) in
      subst (λ (n : ℕ). n ≤ 1000000) (one_grant visit.regs regs visit.steps steps slot at its) (few_granted visit.steps inside.granted))
      (λ apart. sound.grants worker at steps regs (sym (set_other kernel.processors visit.cpu worker (Inside visit.regs visit.steps (InSlot slot)) apart) ∙ is));
}
  where
    marked : List ThreadSlot
    marked = cancelled_slots kernel.slots taken.cancels

moved_steps : (events : ℕ) (kernel : Kernel) (cpu : ℕ) (now : Processor) → ((regs : List ℕ) (steps slot : ℕ) → now ≡ Inside regs steps (InSlot slot) → ⊥)
    → AreGranted events kernel → AreGranted events (record kernel { processors = slice_set kernel.processors cpu now })
moved_steps events kernel cpu now never sound = record {
  calls = sound.calls;
  grants = λ worker at steps regs is.
      by_number cpu worker
      (λ same. absurd (never regs steps at (set_then_read kernel.processors cpu now (Inside regs steps (InSlot at))
      (subst (λ (n : ℕ). slice_get (slice_set kernel.processors cpu now) n ≡ Some (Inside regs steps (InSlot at))) (sym same) is))))
      (λ apart. sound.grants worker at steps regs (sym (set_other kernel.processors cpu worker now apart) ∙ is));
}

new_steps : (c : NewCall) → NewCases c (λ taken. taken.call.steps ≡ 0)
new_steps c = record {
  settles = λ code. refl;
  settles_open = λ app login code. refl;
  settles_invoke = λ named code is. refl;
  cancels = λ named is. refl;
  registers = λ param pages new room good. refl;
  unregisters = λ param unpinned. refl;
  opens_kept = λ wanted app copies copied kept shown shared free. refl;
  opens_awaited = λ wanted app copies copied number shown shared awaited. refl;
  opens_next = λ wanted app copies copied shown shared awaited. refl;
  open_waits = λ wanted app copies copied kept shown shared held. refl;
  invokes = λ named copies copied is alive free. refl;
  invoke_waits = λ named copies copied is alive held. refl;
  closes = λ named is free. refl;
  close_waits = λ named is held. refl;
}

no_steps : (steps events : ℕ) → steps ≡ 0 → steps ≤ 1000000 * events
no_steps steps events e = omega arith

resumed_steps : (r : Resumed) → (onward_of r).call.steps ≡ r.call.steps
resumed_steps r = resumes_all r (λ progress. progress.call.steps ≡ r.call.steps) (record {
  runs = λ job is. refl;
  asks_still = λ job wanted payload is. refl;
  answered = λ job wanted payload answer advance is e. refl;
  ends = λ result params told wakes still is. refl;
  fails = λ params code is. refl;
  sleeps = λ params is. refl;
  opens = λ params session app instance ready alive opening is. refl;
  opens_new = λ params session app awake none opening is pages. refl;
  invokes = λ params session instance func ready alive is. refl;
  closes = λ params session instance ready is. refl;
})

given_steps : (given : Given) (call : PendingCall) → (call_given given call).steps ≡ call.steps
given_steps Nothing call = refl
given_steps (Buffer buffer) call = refl
given_steps NoBuffer call = refl
given_steps (Reply reply) call = refl

seen_steps : (call : PendingCall) → (sees call).steps ≡ call.steps
seen_steps call = if-both (λ (c : PendingCall). c.steps ≡ call.steps) call.marked _ call refl refl

used_few : (granted used : ℕ) (job : Job) (why : JobStop) → grant_of granted job ≡ Some (Stopped used why) → used ≤ granted
used_few granted used job why e = (granted-IsGrant job granted (Stopped used why) e).0

more_steps : (steps used granted : ℕ) → used ≤ granted → steps + used ≤ steps + granted
more_steps steps used granted le = omega arith

same_steps : (steps granted : ℕ) → steps ≤ steps + granted
same_steps steps granted = omega arith

exit_steps : (kernel : Kernel) (call : PendingCall) (granted : ℕ) (progress : Progress) → progress_of kernel.tables call granted ≡ Some progress
    → progress.call.steps ≤ call.steps + granted
exit_steps kernel call granted progress e = exits_all kernel.tables call granted (λ (p : Progress). p.call.steps ≤ call.steps + granted) progress (record {
  left = λ job later is grant. omega arith;
  ends = λ job used end is grant. more_steps call.steps used granted (used_few granted used job _ grant);
  panics = λ job used code is grant. more_steps call.steps used granted (used_few granted used job _ grant);
  asks = λ job later used wanted payload is grant. more_steps call.steps used granted (used_few granted used job _ grant);
  asked = λ job wanted payload is. same_steps call.steps granted;
  waits = λ params is. same_steps call.steps granted;
  told = λ result params wakes is. same_steps call.steps granted;
  tells = λ result params wakes is. same_steps call.steps granted;
}) e

gone_steps : (entries granted before after : ℕ) → after ≤ before + granted → granted ≤ 1000000 → before + 1000000 ≤ 1000000 * entries
    → after ≤ 1000000 * entries
gone_steps entries granted before after le few has = omega arith

entry_steps : (boot : Booted) (entries : ℕ) (kernel : Kernel) (cpu : ℕ) → AreGranted entries kernel → EntryCases boot kernel cpu (AreGranted (entries + 1))
entry_steps boot entries kernel cpu sound = record {
  answered = λ visit answer inside.
      later_granted entries (entries + 1) _ (one_more entries) (moved_steps entries kernel visit.cpu _ (λ regs steps slot e. cc) sound);
  comes = λ visit slot found bytes inside free lies fits.
      cases_onward _ _ _ (λ taken none. taken_steps entries kernel cpu visit slot taken sound inside (no_steps taken.call.steps entries none)) (new_steps _);
  resumes = λ visit call given inside there offered.
      let r = resumed_call boot kernel.tables (thread_in visit.regs) call given in
      let before : call.steps ≤ 1000000 * entries = sound.calls (thread_in visit.regs) (Suspended (client_in visit.regs) call) there in
      let same = resumed_steps r ∙ given_steps given (sees call) ∙ seen_steps call in
      taken_steps entries kernel cpu visit (thread_in visit.regs) (resumed_taken boot kernel visit call given) sound inside
      (subst (λ (n : ℕ). n ≤ 1000000 * entries) (sym same) before);
}

leave_steps : (boot : Booted) (entries : ℕ) (kernel : Kernel) (cpu : ℕ) → AreGranted entries kernel → LeaveCases boot kernel cpu (AreGranted entries)
leave_steps boot entries kernel cpu sound = record {
  told = λ visit answer its fixed. moved_steps entries kernel visit.cpu Outside (λ regs steps slot e. cc) sound;
  goes = λ visit slot worker call progress its inside there e.
      let before : call.steps + 1000000 ≤ 1000000 * entries = sound.calls slot (Active worker call) there in
      let few = sound.grants visit.cpu slot visit.steps visit.regs inside in
      let after = gone_steps entries visit.steps call.steps progress.call.steps (exit_steps kernel call visit.steps progress e) few before in
      let moved = moved_steps entries kernel visit.cpu Outside (λ regs steps at e. cc) sound in
      let left = slot_left progress.call (leaving_of slot progress.call) in
      let has : HasStepsAfter entries left = left_all slot progress.call (HasStepsAfter entries) after after (λ result params told is. tt) in
      record {
        calls = λ at held is.
            by_number slot at
            (λ same. subst (HasStepsAfter entries) (set_then_read kernel.slots slot left held
            (subst (λ (n : ℕ). slice_get (slice_set kernel.slots slot left) n ≡ Some held) (sym same) is)) has)
            (λ apart. sound.calls at held (sym (set_other kernel.slots slot at left apart) ∙ is));
        grants = moved.grants;
      };
}

no_calls : (count slot : ℕ) (held : ThreadSlot) → slice_get (replicate count Free) slot ≡ Some held → HasStepsAfter 0 held
no_calls zero slot held e = absurd cc
no_calls (suc count) zero held e = let is : Free ≡ held = cc in subst (HasStepsAfter 0) is tt
no_calls (suc count) (suc slot) held e = no_calls count slot held e

nobody_inside : (count cpu steps slot : ℕ) (regs : List ℕ) → slice_get (replicate count Outside) cpu ≡ Some (Inside regs steps (InSlot slot)) → ⊥
nobody_inside zero cpu steps slot regs e = cc
nobody_inside (suc count) zero steps slot regs e = cc
nobody_inside (suc count) (suc cpu) steps slot regs e = nobody_inside count cpu steps slot regs e

later : (boot : Booted) (entries : ℕ) (kernel last : Kernel) (events : List Event) → AreGranted entries kernel
    → after_events boot kernel events ≡ Some last → AreGranted (entries + entries_in events) last
later boot entries kernel last [] sound e =
    let none : entries ≡ entries + 0 = omega arith in
    subst (λ (n : ℕ). AreGranted n last) none (subst (AreGranted entries) (some_same kernel last e) sound)
later boot entries kernel last (event.Entry cpu regs steps reads ∷ events) sound e =
    option_and_then_some (λ k. after_events boot k events) (after_event boot kernel (event.Entry cpu regs steps reads)) last e
    (λ (next : Kernel) there onward.
    let one : (entries + 1) + entries_in events ≡ entries + suc (entries_in events) = omega arith in
    subst (λ (n : ℕ). AreGranted n last) one
    (later boot (entries + 1) next last events
    (after_entry_of boot kernel next (AreGranted (entries + 1)) cpu steps regs reads (entry_steps boot entries kernel cpu sound) there) onward))
later boot entries kernel last (event.Exit cpu regs ∷ events) sound e =
    option_and_then_some (λ k. after_events boot k events) (after_event boot kernel (event.Exit cpu regs)) last e
    (λ (next : Kernel) there onward.
    later boot entries next last events (after_exit_of boot kernel next (AreGranted entries) cpu regs (leave_steps boot entries kernel cpu sound) there) onward)

pub steps_of_entries : StepsAreOfEntries
steps_of_entries boot history kernel e =
    let none : 0 + entries_in history ≡ entries_in history = omega arith in
    subst (λ (n : ℕ). AreGranted n kernel) none (later boot 0 (first_kernel boot) kernel history (record {
      calls = λ slot held is. no_calls boot.threads slot held is;
      grants = λ cpu slot steps regs is. absurd (nobody_inside boot.cpus cpu steps slot regs is);
    }) e)

few_entries : (history : List Event) → entries_in history ≤ length history
few_entries [] = omega arith
few_entries (event.Entry cpu regs steps reads ∷ events) = let rest = few_entries events in omega arith
few_entries (event.Exit cpu regs ∷ events) = let rest = few_entries events in omega arith

pub steps_granted : StepsAreGranted
steps_granted boot history kernel e =
    later_granted (entries_in history) (length history) kernel (few_entries history) (steps_of_entries boot history kernel e)
