-- A suspended slot holds what the last exit from it left there, for the client of its call.
use Rattle.std.proofs.Common.{◌≡◌, ℕ, zero, suc, List, [], ◌∷◌, ◌++◌, Option, Some, None, Bool, true, false, refl, ap, sym, subst, ◌∙◌}
use Rattle.std.specs.Prelude.{map, slice_get, slice_set, replicate, length, ◌==◌, ◌&&◌, ◌||◌, bytes_eq, if◌then◌else◌}
use Rattle.std.specs.Option.{option_map, option_map_or, option_and_then}
use Rattle.std.proofs.lemmas.Bool.Decides.{Decides-eqb}
use Rattle.std.proofs.lemmas.Option.{option_and_then_some}
use Rattle.std.proofs.Math.Seq.{take-append_seam, take-append-add}
use Rattle.event_journal.specs.declared.event.Event.{Event}
use Rattle.event_journal.specs.declared.event.Event.TheVariants as event
use Rattle.ns_ram.specs.declared.read.Read.{Read}
use Rattle.smc_abi.specs.Call.{call_of}
use Rattle.smc_abi.specs.declared.answer.Answer.{Answer}
use Rattle.smc_abi.specs.declared.call.Call.TheVariants.{Resume}
use Rattle.smc_abi.specs.declared.regs.Regs.{Regs}
use Rattle.kernel_model.specs.Application.{Booted}
use Rattle.kernel_model.specs.Argument.{reg, client_in, thread_in}
use Rattle.kernel_model.specs.Codes.{eresume}
use Rattle.kernel_model.specs.Decision.{Decision, Answers, Takes, works_on}
use Rattle.kernel_model.specs.Entry.{after_decision, after_entry}
use Rattle.kernel_model.specs.Exit.{Exited, goes_out, goes_out_from, exit, exit_of, progress_in_slot, slot_left}
use Rattle.kernel_model.specs.History.{after_event, after_events, entry_from, exit_to, goes_out_of, can_be_granted, is_outside, kernel_after, left_by_exits, IsEntryOf, IsLater, Resumes, ResumesCall, slot_of_processor}
use Rattle.kernel_model.specs.Kernel.{PendingCall, Progress, Cancel, cancelled_call, cancelled_slot, cancelled_slots, is_meant, ThreadSlot, Free, Active, Suspended, Fixed, InSlot, Processor, Outside, Inside, Kernel, Visit, first_kernel}
use Rattle.kernel_model.specs.Laws.{ResumesContinue}
use Rattle.kernel_model.specs.Leaving.{leaving_of}
use Rattle.kernel_model.specs.Resume.{call_resumed_by, suspended_for}
use Rattle.kernel_model.proofs.EntryLaws.{resumes_call, tells, told_resume}
use Rattle.kernel_model.proofs.FixedAnswer.{decided_errand, decides}
use Rattle.kernel_model.proofs.Parts.{option_map_some, set_then_read, set_other}
use Rattle.kernel_model.proofs.Past.{after_events-append}
use Rattle.kernel_model.proofs.SoundExits.{IsLeft, left_for, left_so}

-- what exits left is the call, but that it may be cancelled since, for the client of the call
record Since (left : Option ThreadSlot) (client : ℕ) (call : PendingCall) : Type 0 where
  was : Bool
  same : left ≡ Some (Suspended client (record call { marked = was }))
  stays : was ≡ true → call.marked ≡ true
  own : client ≡ call.client

-- what the slot holds suspended is what exits left there
abbrev Kept : ℕ → Kernel → Option ThreadSlot → Type 0
Kept slot kernel left = (client : ℕ) (call : PendingCall) → slice_get kernel.slots slot ≡ Some (Suspended client call) → Since left client call

-- ---- entries

not_suspended : (cpu client : ℕ) (made call : PendingCall) → Active cpu made ≡ Suspended client call → ⊥
not_suspended cpu client made call e = cc

same_slot : (slots : List ThreadSlot) (taken slot cpu client : ℕ) (made call : PendingCall) (same : Bool) → (taken == slot) ≡ same
    → slice_get (slice_set slots taken (Active cpu made)) slot ≡ Some (Suspended client call) → slice_get slots slot ≡ Some (Suspended client call)
same_slot slots taken slot cpu client made call true e h =
    let at = (Decides-eqb taken slot).0 e in
    let there = subst (λ (i : ℕ). slice_get (slice_set slots taken (Active cpu made)) i ≡ Some (Suspended client call)) (sym at) h in
    absurd (not_suspended cpu client made call (set_then_read slots taken (Active cpu made) (Suspended client call) there))
same_slot slots taken slot cpu client made call false e h =
    let apart : taken ≡ slot → ⊥ = λ at. let yes = (Decides-eqb taken slot).1 at in absurd cc in
    sym (set_other slots taken slot (Active cpu made) apart) ∙ h

get_mapped : (slots : List ThreadSlot) (i : ℕ) (f : ThreadSlot → ThreadSlot) → slice_get (map f slots) i ≡ option_map f (slice_get slots i)
get_mapped [] i f = refl
get_mapped (first ∷ slots) zero f = refl
get_mapped (first ∷ slots) (suc i) f = get_mapped slots i f

-- a mark stays where another call is cancelled
mark_stays : (meant marked : Bool) → marked ≡ true → (meant || marked) ≡ true
mark_stays true marked e = refl
mark_stays false marked e = e

-- a call that is cancelled now was left by the same exit
cancelled_kept : (cancel : Cancel) (held left : Option ThreadSlot) (client : ℕ) (call : PendingCall)
    → ((before : PendingCall) → held ≡ Some (Suspended client before) → Since left client before)
    → option_map (cancelled_slot cancel) held ≡ Some (Suspended client call) → Since left client call
cancelled_kept cancel None left client call kept h = absurd cc
cancelled_kept cancel (Some Free) left client call kept h = absurd cc
cancelled_kept cancel (Some (Active cpu before)) left client call kept h = absurd cc
cancelled_kept cancel (Some (Suspended owner before)) left client call kept h =
    let mine : owner ≡ client = cc in
    let is : cancelled_call cancel before ≡ call = cc in
    let since = kept before (ap (λ (c : ℕ). Some (Suspended c before)) mine) in
    subst (λ (c : PendingCall). Since left client c) is (record {
      was = since.was;
      same = since.same;
      stays = λ e. mark_stays (is_meant cancel before) before.marked (since.stays e);
      own = since.own;
    })

-- what a slot holds suspended, once calls are cancelled
cancels_kept : (slot : ℕ) (kernel : Kernel) (cancels : Option Cancel) (left : Option ThreadSlot) (client : ℕ) (call : PendingCall)
    → Kept slot kernel left → slice_get (cancelled_slots kernel.slots cancels) slot ≡ Some (Suspended client call) → Since left client call
cancels_kept slot kernel None left client call kept h = kept client call h
cancels_kept slot kernel (Some cancel) left client call kept h =
    cancelled_kept cancel (slice_get kernel.slots slot) left client call (λ before is. kept client before is)
    (sym (get_mapped kernel.slots slot (cancelled_slot cancel)) ∙ h)

decided_kept : (slot : ℕ) (kernel : Kernel) (visit : Visit) (left : Option ThreadSlot) (decision : Decision)
    → Kept slot kernel left → Kept slot (after_decision kernel visit decision) left
decided_kept slot kernel visit left (Answers answer) kept client call h = kept client call h
decided_kept slot kernel visit left (Takes number taken) kept client call h =
    let slots = cancelled_slots kernel.slots taken.cancels in
    cancels_kept slot kernel taken.cancels left client call kept
    (same_slot slots number slot visit.cpu client taken.call call (number == slot) refl h)

entry_kept : (boot : Booted) (slot : ℕ) (kernel next : Kernel) (visit : Visit) (reads : List Read) (left : Option ThreadSlot)
    → Kept slot kernel left → after_entry boot kernel visit reads ≡ Some next → Kept slot next left
entry_kept boot slot kernel next visit reads left kept e =
    let found = decides boot kernel next visit reads e in
    subst (λ (k : Kernel). Kept slot k left) found.gives (decided_kept slot kernel visit left found.value kept)

allowed_kept : (boot : Booted) (slot : ℕ) (kernel next : Kernel) (visit : Visit) (reads : List Read) (left : Option ThreadSlot) (allowed : Bool)
    → Kept slot kernel left → (if allowed then after_entry boot kernel visit reads else None) ≡ Some next → Kept slot next left
allowed_kept boot slot kernel next visit reads left true kept e = entry_kept boot slot kernel next visit reads left kept e
allowed_kept boot slot kernel next visit reads left false kept e = absurd cc

-- ---- exits

record LeftIn (slots : List ThreadSlot) (slot : ℕ) (exited : Exited) : Type 0 where
  held : ThreadSlot
  own : IsLeft held
  after : exited.kernel.slots ≡ slice_set slots slot held

progress_left : (kernel : Kernel) (visit : Visit) (slot : ℕ) (progress : Progress) → LeftIn kernel.slots slot (goes_out_from kernel visit slot progress)
progress_left kernel visit slot progress =
    let leaving = leaving_of slot progress.call in
    record { held = slot_left progress.call leaving; own = left_so slot progress.call; after = refl }

slot_in : (kernel : Kernel) (visit : Visit) (slot : ℕ) (exited : Exited)
    → option_map (goes_out_from kernel visit slot) (progress_in_slot kernel visit.steps slot) ≡ Some exited → LeftIn kernel.slots slot exited
slot_in kernel visit slot exited e =
    let came = option_map_some (goes_out_from kernel visit slot) (progress_in_slot kernel visit.steps slot) exited e in
    subst (λ (x : Exited). LeftIn kernel.slots slot x) came.2 (progress_left kernel visit slot came.0)

-- what the last exit left, once one more has gone out from a slot
abbrev now_left : ℕ → ℕ → Kernel → Option ThreadSlot → Bool → Option ThreadSlot
now_left slot from after left same = if same then slice_get after.slots slot else left

slot_kept : (slot from : ℕ) (kernel : Kernel) (left : Option ThreadSlot) (exited : Exited) (same : Bool) → (from == slot) ≡ same
    → Kept slot kernel left → LeftIn kernel.slots from exited → Kept slot exited.kernel (now_left slot from exited.kernel left same)
slot_kept slot from kernel left exited true e kept gone client call h =
    let at = (Decides-eqb from slot).0 e in
    let here = ap (λ (xs : List ThreadSlot). slice_get xs slot) (sym gone.after) ∙ h in
    let there = subst (λ (i : ℕ). slice_get (slice_set kernel.slots from gone.held) i ≡ Some (Suspended client call)) (sym at) here in
    let own = left_for gone.held client call (set_then_read kernel.slots from gone.held (Suspended client call) there) gone.own in
    record { was = call.marked; same = h; stays = λ e. e; own = own }
slot_kept slot from kernel left exited false e kept gone client call h =
    let apart : from ≡ slot → ⊥ = λ at. let yes = (Decides-eqb from slot).1 at in absurd cc in
    let here = ap (λ (xs : List ThreadSlot). slice_get xs slot) (sym gone.after) ∙ h in
    kept client call (sym (set_other kernel.slots from slot gone.held apart) ∙ here)

abbrev goes_from : ℕ → Option Processor → Bool
goes_from slot processor = option_map_or (λ from. from == slot) (option_and_then slot_of_processor processor) false

exit_kept : (slot : ℕ) (kernel : Kernel) (cpu : ℕ) (left : Option ThreadSlot) (processor : Option Processor) (exited : Exited)
    → Kept slot kernel left → option_and_then (exit_of kernel cpu) processor ≡ Some exited
    → Kept slot exited.kernel (if goes_from slot processor then slice_get exited.kernel.slots slot else left)
exit_kept slot kernel cpu left None exited kept e = absurd cc
exit_kept slot kernel cpu left (Some Outside) exited kept e = absurd cc
exit_kept slot kernel cpu left (Some (Inside regs count (Fixed answer))) exited kept e =
    let made : Exited = goes_out kernel (record { cpu = cpu; regs = regs; steps = count }) answer [] in
    let same : made ≡ exited = cc in
    subst (λ (x : Exited). Kept slot x.kernel left) same kept
exit_kept slot kernel cpu left (Some (Inside regs count (InSlot from))) exited kept e =
    let visit : Visit = record { cpu = cpu; regs = regs; steps = count } in
    slot_kept slot from kernel left exited (from == slot) refl kept (slot_in kernel visit from exited e)

-- ---- histories

exit_of_kept : (slot : ℕ) (next : Kernel) (left : Kernel → Option ThreadSlot) (exited : Exited) (same : Bool)
    → Kept slot exited.kernel (left exited.kernel) → (if same then Some exited.kernel else None) ≡ Some next → Kept slot next (left next)
exit_of_kept slot next left exited true kept e =
    let is : exited.kernel ≡ next = cc in
    subst (λ (k : Kernel). Kept slot k (left k)) is kept
exit_of_kept slot next left exited false kept e = absurd cc

abbrev after_one : Kernel → ℕ → Option ThreadSlot → Event → Kernel → Option ThreadSlot
after_one kernel slot left happened next = if goes_out_of kernel slot happened then slice_get next.slots slot else left

event_kept : (boot : Booted) (slot : ℕ) (kernel next : Kernel) (left : Option ThreadSlot) (happened : Event)
    → Kept slot kernel left → after_event boot kernel happened ≡ Some next → Kept slot next (after_one kernel slot left happened next)
event_kept boot slot kernel next left (event.Entry cpu regs count reads) kept e =
    let visit : Visit = record { cpu = cpu; regs = regs.a; steps = count } in
    option_and_then_some (entry_from boot kernel visit reads) (slice_get kernel.processors cpu) next e
    (λ (processor : Processor) there onward. allowed_kept boot slot kernel next visit reads left (is_outside processor && can_be_granted count) kept onward)
event_kept boot slot kernel next left (event.Exit cpu regs) kept e =
    let left_in = after_one kernel slot left (event.Exit cpu regs) in
    option_and_then_some (exit_to regs.a) (exit kernel cpu) next e
    (λ (exited : Exited) there onward.
    exit_of_kept slot next left_in exited (bytes_eq exited.regs regs.a) (exit_kept slot kernel cpu left (slice_get kernel.processors cpu) exited kept there) onward)

later_kept : (boot : Booted) (slot : ℕ) (kernel last : Kernel) (left : Option ThreadSlot) (happened : Event) (events : List Event) (o : Option Kernel)
    → after_event boot kernel happened ≡ o → Kept slot kernel left
    → ((next : Kernel) (now : Option ThreadSlot) → Kept slot next now → after_events boot next events ≡ Some last → Kept slot last (left_by_exits boot next slot now events))
    → option_and_then (λ k. after_events boot k events) o ≡ Some last
    → Kept slot last (option_and_then (λ next. left_by_exits boot next slot (after_one kernel slot left happened next) events) o)
later_kept boot slot kernel last left happened events None e kept rest h = absurd cc
later_kept boot slot kernel last left happened events (Some next) e kept rest h =
    rest next (after_one kernel slot left happened next) (event_kept boot slot kernel next left happened kept e) h

events_kept : (boot : Booted) (slot : ℕ) (kernel last : Kernel) (left : Option ThreadSlot) (events : List Event)
    → Kept slot kernel left → after_events boot kernel events ≡ Some last → Kept slot last (left_by_exits boot kernel slot left events)
events_kept boot slot kernel last left [] kept e =
    let is : kernel ≡ last = cc in
    subst (λ (k : Kernel). Kept slot k left) is kept
events_kept boot slot kernel last left (happened ∷ events) kept e =
    later_kept boot slot kernel last left happened events (after_event boot kernel happened) refl kept
    (λ next now. events_kept boot slot next last now events) e

none_suspended : (count slot client : ℕ) (call : PendingCall) → slice_get (replicate count Free) slot ≡ Some (Suspended client call) → ⊥
none_suspended zero slot client call e = cc
none_suspended (suc count) zero client call e = cc
none_suspended (suc count) (suc slot) client call e = none_suspended count slot client call e

first_kept : (boot : Booted) (slot : ℕ) → Kept slot (first_kernel boot) None
first_kept boot slot client call h = absurd (none_suspended boot.threads slot client call h)

-- ---- resumes

-- the call for which a resume is, in the slot that its registers name
record Found (kernel : Kernel) (regs : List ℕ) (call : PendingCall) : Type 0 where
  owner : ℕ
  held : slice_get kernel.slots (thread_in regs) ≡ Some (Suspended owner call)
  is_client : owner ≡ client_in regs

client_found : (kernel : Kernel) (regs : List ℕ) (owner : ℕ) (was call : PendingCall) (same : Bool) → (owner == client_in regs) ≡ same
    → slice_get kernel.slots (thread_in regs) ≡ Some (Suspended owner was) → (if same then Some was else None) ≡ Some call → Found kernel regs call
client_found kernel regs owner was call true is held e =
    let this : was ≡ call = cc in
    record {
      owner = owner;
      held = held ∙ ap (λ (c : PendingCall). Some (Suspended owner c)) this;
      is_client = (Decides-eqb owner (client_in regs)).0 is;
    }
client_found kernel regs owner was call false is held e = absurd cc

held_found : (kernel : Kernel) (regs : List ℕ) (call : PendingCall) (held : Option ThreadSlot) → slice_get kernel.slots (thread_in regs) ≡ held
    → suspended_for (client_in regs) held ≡ Some call → Found kernel regs call
held_found kernel regs call None is e = absurd cc
held_found kernel regs call (Some Free) is e = absurd cc
held_found kernel regs call (Some (Active cpu was)) is e = absurd cc
held_found kernel regs call (Some (Suspended owner was)) is e =
    client_found kernel regs owner was call (owner == client_in regs) refl is e

-- a resume that is let in
record LetIn (boot : Booted) (kernel next : Kernel) (visit : Visit) (reads : List Read) (slot : ℕ) : Type 0 where
  call : PendingCall
  found : Found kernel visit.regs call
  at : thread_in visit.regs ≡ slot
  resumes : ResumesCall boot kernel visit reads call next

no_errand : (answer : Answer) (slot : ℕ) → Fixed answer ≡ InSlot slot → ⊥
no_errand answer slot e = cc

same_number : (first second : ℕ) → InSlot first ≡ InSlot second → first ≡ second
same_number first second e = cc

resume_let_in : (boot : Booted) (kernel next : Kernel) (visit : Visit) (reads : List Read) (slot : ℕ) (found : Option PendingCall)
    → call_resumed_by kernel.slots visit.regs ≡ found → call_of (reg visit.regs 0) ≡ Resume → after_entry boot kernel visit reads ≡ Some next
    → slice_get next.processors visit.cpu ≡ Some (Inside visit.regs visit.steps (InSlot slot)) → LetIn boot kernel next visit reads slot
resume_let_in boot kernel next visit reads slot None none is e inside =
    let told = tells boot kernel next visit reads e in
    let decided = told_resume kernel visit.regs told.value told.holds (is, none) in
    let gives = ap (λ (d : Decision). after_decision kernel visit d) (sym decided) ∙ told.gives in
    absurd (no_errand eresume slot (decided_errand kernel next visit (InSlot slot) (Answers eresume) gives inside))
resume_let_in boot kernel next visit reads slot (Some call) some is e inside =
    let resumes = resumes_call boot kernel next visit reads call is some e in
    let number = decided_errand kernel next visit (InSlot slot) (Takes (thread_in visit.regs) (works_on resumes.progress)) (sym resumes.next_is) inside in
    record {
      call = call;
      found = held_found kernel visit.regs call (slice_get kernel.slots (thread_in visit.regs)) refl some;
      at = same_number (thread_in visit.regs) slot number;
      resumes = resumes;
    }

allowed_let_in : (boot : Booted) (kernel next : Kernel) (visit : Visit) (reads : List Read) (slot : ℕ) (allowed : Bool)
    → call_of (reg visit.regs 0) ≡ Resume → (if allowed then after_entry boot kernel visit reads else None) ≡ Some next
    → slice_get next.processors visit.cpu ≡ Some (Inside visit.regs visit.steps (InSlot slot)) → LetIn boot kernel next visit reads slot
allowed_let_in boot kernel next visit reads slot true is e inside =
    resume_let_in boot kernel next visit reads slot (call_resumed_by kernel.slots visit.regs) refl is e inside
allowed_let_in boot kernel next visit reads slot false is e inside = absurd cc

pub only_one : (o : Option Kernel) (next : Kernel) → option_and_then (λ k. Some k) o ≡ Some next → o ≡ Some next
only_one None next e = absurd cc
only_one (Some kernel) next e = e

abbrev visit_of : ℕ → Regs → ℕ → Visit
visit_of cpu regs count = record { cpu = cpu; regs = regs.a; steps = count }

event_let_in : (boot : Booted) (kernel next : Kernel) (cpu count slot : ℕ) (regs : Regs) (reads : List Read) → call_of (reg regs.a 0) ≡ Resume
    → after_event boot kernel (event.Entry cpu regs count reads) ≡ Some next
    → slice_get next.processors cpu ≡ Some (Inside regs.a count (InSlot slot)) → LetIn boot kernel next (visit_of cpu regs count) reads slot
event_let_in boot kernel next cpu count slot regs reads is e inside =
    option_and_then_some (entry_from boot kernel (visit_of cpu regs count) reads) (slice_get kernel.processors cpu) next e
    (λ (processor : Processor) there onward.
    allowed_let_in boot kernel next (visit_of cpu regs count) reads slot (is_outside processor && can_be_granted count) is onward inside)

at_seam : (before : List Event) (last : Event) → slice_get (before ++ last ∷ []) (length before) ≡ Some last
at_seam [] last = refl
at_seam (first ∷ before) last = at_seam before last

-- the event at this place is a resume of this call, as the last exit from its slot left it
pub record Continued (boot : Booted) (history : List Event) (at slot : ℕ) (call : PendingCall) : Type 0 where
  pub left : PendingCall
  pub later : IsLater left call
  pub resumes : Resumes boot history at slot left

let_in_resumes : (boot : Booted) (before : List Event) (kernel next : Kernel) (cpu count slot : ℕ) (regs : Regs) (reads : List Read)
    → kernel_after boot before ≡ Some kernel → kernel_after boot (before ++ event.Entry cpu regs count reads ∷ []) ≡ Some next
    → (came : LetIn boot kernel next (visit_of cpu regs count) reads slot)
    → Continued boot (before ++ event.Entry cpu regs count reads ∷ []) (length before) slot came.call
let_in_resumes boot before kernel next cpu count slot regs reads there e came =
    let last : Event = event.Entry cpu regs count reads in
    let held = subst (λ (i : ℕ). slice_get kernel.slots i ≡ Some (Suspended came.found.owner came.call)) came.at came.found.held in
    let kept = events_kept boot slot (first_kernel boot) kernel None before (first_kept boot slot) there came.found.owner came.call held in
    let left_call : PendingCall = record came.call { marked = kept.was } in
    let cut = take-append_seam before (last ∷ []) in
    let whole = take-append-add before (last ∷ []) 1 in
    let since : IsLater left_call came.call = record { same = refl; stays = kept.stays } in
    record {
      left = left_call;
      later = since;
      resumes = record {
        visit = visit_of cpu regs count;
        reads = reads;
        comes_in = subst (IsEntryOf (visit_of cpu regs count) reads) (sym (at_seam before last)) (refl, refl);
        of_slot = came.at;
        by_client = sym came.found.is_client ∙ kept.own;
        left =
            ap (λ (events : List Event). left_by_exits boot (first_kernel boot) slot None events) cut
            ∙ kept.same ∙ ap (λ (client : ℕ). Some (Suspended client left_call)) kept.own;
        kernel = kernel;
        next = next;
        before = ap (λ (events : List Event). kernel_after boot events) cut ∙ there;
        after = ap (λ (events : List Event). kernel_after boot events) whole ∙ e;
        now = came.call;
        later = since;
        resumes = came.resumes;
      };
    }

-- a call for which a resume is, is suspended in the slot that the registers name for the client that they name
pub suspended_there : (kernel : Kernel) (regs : List ℕ) (call : PendingCall) → call_resumed_by kernel.slots regs ≡ Some call
    → slice_get kernel.slots (thread_in regs) ≡ Some (Suspended (client_in regs) call)
suspended_there kernel regs call some =
    let found = held_found kernel regs call (slice_get kernel.slots (thread_in regs)) refl some in
    found.held ∙ ap (λ (client : ℕ). Some (Suspended client call)) found.is_client

-- and its resume continues what the last exit left of it
pub call_continued : (boot : Booted) (before : List Event) (kernel next : Kernel) (cpu count : ℕ) (regs : Regs) (reads : List Read) (call : PendingCall)
    → kernel_after boot before ≡ Some kernel → kernel_after boot (before ++ event.Entry cpu regs count reads ∷ []) ≡ Some next
    → call_resumed_by kernel.slots regs.a ≡ Some call → ResumesCall boot kernel (visit_of cpu regs count) reads call next
    → Continued boot (before ++ event.Entry cpu regs count reads ∷ []) (length before) (thread_in regs.a) call
call_continued boot before kernel next cpu count regs reads call there e some resumes =
    let_in_resumes boot before kernel next cpu count (thread_in regs.a) regs reads there e (record {
      call = call;
      found = held_found kernel regs.a call (slice_get kernel.slots (thread_in regs.a)) refl some;
      at = refl;
      resumes = resumes;
    })

pub resumes_continue : ResumesContinue
resumes_continue boot before cpu count slot regs reads next e is inside =
    let last : Event = event.Entry cpu regs count reads in
    let cut = after_events-append boot (first_kernel boot) before (last ∷ []) in
    option_and_then_some (λ k. after_events boot k (last ∷ [])) (kernel_after boot before) next (sym cut ∙ e)
    (λ (kernel : Kernel) there onward.
    let came = event_let_in boot kernel next cpu count slot regs reads is (only_one (after_event boot kernel last) next onward) inside in
    let continued = let_in_resumes boot before kernel next cpu count slot regs reads there e came in
    (continued.left, continued.resumes))
