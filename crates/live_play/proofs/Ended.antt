-- A call that has ended stays so until it leaves its slot.
use Rattle.std.proofs.Common.{◌≡◌, ℕ, zero, suc, Bool, true, false, List, [], ◌∷◌, map, Option, Some, None, refl, sym, ap, subst, ◌∙◌}
use Rattle.std.specs.Prelude.{◌==◌, if◌then◌else◌, slice_get}
use Rattle.std.specs.Option.{option_map}
use Rattle.std.proofs.lemmas.Bool.Decides.{Decides-eqb}
use Rattle.kernel_model.specs.Application.{Booted}
use Rattle.kernel_model.specs.Argument.{thread_in}
use Rattle.kernel_model.specs.Decision.{Taken, Takes}
use Rattle.kernel_model.specs.Entry.{after_decision}
use Rattle.kernel_model.specs.Exit.{goes_out_from, progress_in, shows_result, slot_left, tables_unrun}
use Rattle.kernel_model.specs.Given.{Buffer, Given, NoBuffer, Nothing, Reply, call_given}
use Rattle.kernel_model.specs.Kernel.{Active, Asks, CallPhase, Cancel, Ends, Free, Kernel, PendingCall, Progress, Runs, Suspended, Tables, ThreadSlot, Visit, Waits, cancelled_slot, cancelled_slots}
use Rattle.kernel_model.specs.Leaving.{leaving_of}
use Rattle.kernel_model.specs.NewCall.{new_call_of}
use Rattle.kernel_model.specs.Resume.{Resumed, onward_in, onward_of, phase_seen, resumed_call, sees}
use Rattle.kernel_model.specs.Turns.{cpu_of}
use Rattle.kernel_model.proofs.Parts.{set_found, set_other}
use Rattle.kernel_model.proofs.SoundEvents.{EventCases, after_one, resumed_taken}
use Rattle.kernel_model.proofs.SoundNewCalls.{all_cases}
use Rattle.kernel_model.proofs.SoundSlots.{free_there}
use Rattle.live_play.specs.PanickingLaws.{EndedCallsStay, IsEnded, has_ended, has_result}
use Rattle.live_play.proofs.Panicked.{left_ended}

-- ---- a call that is resumed

seen_result : (phase : CallPhase) → has_result phase ≡ true → has_result (phase_seen phase) ≡ true
seen_result (Runs job) ended = absurd cc
seen_result (Asks job wanted payload) ended = absurd cc
seen_result (Waits params) ended = absurd cc
seen_result (Ends result params told wakes) ended = refl

sees_result : (call : PendingCall) (marked : Bool) → has_result call.phase ≡ true
    → has_result (if marked then record call { seen = true; phase = phase_seen call.phase } else call).phase ≡ true
sees_result call true ended = seen_result call.phase ended
sees_result call false ended = ended

given_phase : (given : Given) (call : PendingCall) → (call_given given call).phase ≡ call.phase
given_phase Nothing call = refl
given_phase (Buffer buffer) call = refl
given_phase NoBuffer call = refl
given_phase (Reply reply) call = refl

onward_result : (r : Resumed) (phase : CallPhase) → has_result phase ≡ true → has_result (onward_in r phase).call.phase ≡ true
onward_result r (Runs job) ended = absurd cc
onward_result r (Asks job wanted payload) ended = absurd cc
onward_result r (Waits params) ended = absurd cc
onward_result r (Ends result params told wakes) ended = refl

resumed_result : (boot : Booted) (tables : Tables) (slot : ℕ) (call : PendingCall) (given : Given) → has_result call.phase ≡ true
    → has_result (onward_of (resumed_call boot tables slot call given)).call.phase ≡ true
resumed_result boot tables slot call given ended =
    onward_result (resumed_call boot tables slot call given) (call_given given (sees call)).phase
    (ap has_result (given_phase given (sees call)) ∙ sees_result call call.marked ended)

-- ---- a call that goes out

progress_result : (tables : Tables) (call : PendingCall) (steps : ℕ) (phase : CallPhase) (progress : Progress) → call.phase ≡ phase
    → has_result phase ≡ true → progress_in tables call steps phase ≡ Some progress → has_result progress.call.phase ≡ true
progress_result tables call steps (Runs job) progress is ended e = absurd cc
progress_result tables call steps (Asks job wanted payload) progress is ended e = absurd cc
progress_result tables call steps (Waits params) progress is ended e = absurd cc
progress_result tables call steps (Ends result params false wakes) progress is ended e =
    let same : shows_result (tables_unrun tables call) call result params ≡ progress = cc in
    ap (λ (p : Progress). has_result p.call.phase) (sym same)
progress_result tables call steps (Ends result params true wakes) progress is ended e =
    let made : Progress = record { call = call; tables = tables } in
    let same : made ≡ progress = cc in
    ap (λ (p : Progress). has_result p.call.phase) (sym same) ∙ ap has_result is

-- ---- a slot

-- what it holds is this, and has ended
ended_as : (kernel : Kernel) (slot : ℕ) (held : ThreadSlot) → slice_get kernel.slots slot ≡ Some held → has_ended held ≡ true
    → IsEnded kernel slot
ended_as kernel slot held there ended = record { held = held; there = there; ended = ended }

same_held : (slots : List ThreadSlot) (slot : ℕ) (one other : ThreadSlot) → slice_get slots slot ≡ Some one
    → slice_get slots slot ≡ Some other → one ≡ other
same_held slots slot one other e f = let both : Some one ≡ Some other = sym e ∙ f in cc

get_mapped : (slots : List ThreadSlot) (i : ℕ) (f : ThreadSlot → ThreadSlot)
    → slice_get (map f slots) i ≡ option_map f (slice_get slots i)
get_mapped [] i f = refl
get_mapped (first ∷ slots) zero f = refl
get_mapped (first ∷ slots) (suc i) f = get_mapped slots i f

cancelled_ended : (cancel : Cancel) (held : ThreadSlot) → has_ended held ≡ true → has_ended (cancelled_slot cancel held) ≡ true
cancelled_ended cancel Free ended = refl
cancelled_ended cancel (Active worker call) ended = ended
cancelled_ended cancel (Suspended client call) ended = ended

-- where calls are cancelled
record Holds (slots : List ThreadSlot) (slot : ℕ) : Type 0 where
  held : ThreadSlot
  there : slice_get slots slot ≡ Some held
  ended : has_ended held ≡ true

cancelled_holds : (slots : List ThreadSlot) (slot : ℕ) (cancels : Option Cancel) (held : ThreadSlot) → slice_get slots slot ≡ Some held
    → has_ended held ≡ true → Holds (cancelled_slots slots cancels) slot
cancelled_holds slots slot None held there ended = record { held = held; there = there; ended = ended }
cancelled_holds slots slot (Some cancel) held there ended = record {
  held = cancelled_slot cancel held;
  there = get_mapped slots slot (cancelled_slot cancel) ∙ ap (option_map (cancelled_slot cancel)) there;
  ended = cancelled_ended cancel held ended;
}

apart_from : (one other : ℕ) → (one == other) ≡ false → one ≡ other → ⊥
apart_from one other e at = let yes = (Decides-eqb one other).1 at in cc

-- ---- each kind of event

module _ (boot : Booted) (kernel : Kernel) (slot : ℕ) (held : ThreadSlot) (there : slice_get kernel.slots slot ≡ Some held)
    (ended : has_ended held ≡ true) (busy : held ≡ Free → ⊥) where
  -- another slot is taken
  other_taken : (visit : Visit) (number : ℕ) (taken : Taken) → (number ≡ slot → ⊥)
      → IsEnded (after_decision kernel visit (Takes number taken)) slot
  other_taken visit number taken apart =
      let holds = cancelled_holds kernel.slots slot taken.cancels held there ended in
      record {
        held = holds.held;
        there = set_other (cancelled_slots kernel.slots taken.cancels) number slot (Active visit.cpu taken.call) apart ∙ holds.there;
        ended = holds.ended;
      }

  new_taken : (visit : Visit) (number : ℕ) (taken : Taken) → slice_get kernel.slots number ≡ Some Free
      → IsEnded (after_decision kernel visit (Takes number taken)) slot
  new_taken visit number taken free =
      other_taken visit number taken
      (λ at. busy (same_held kernel.slots slot held Free there (subst (λ (n : ℕ). slice_get kernel.slots n ≡ Some Free) at free)))

  resumed : (visit : Visit) (client : ℕ) (call : PendingCall) (given : Given)
      → slice_get kernel.slots (thread_in visit.regs) ≡ Some (Suspended client call) → (same : Bool)
      → (thread_in visit.regs == slot) ≡ same
      → IsEnded (after_decision kernel visit (Takes (thread_in visit.regs) (resumed_taken boot kernel visit call given))) slot
  resumed visit client call given was true is =
      let number : ℕ = thread_in visit.regs in
      let at = (Decides-eqb number slot).0 is in
      let its : held ≡ Suspended client call =
      same_held kernel.slots slot held (Suspended client call) there
      (subst (λ (n : ℕ). slice_get kernel.slots n ≡ Some (Suspended client call)) at was) in
      let taken : Taken = resumed_taken boot kernel visit call given in
      subst (IsEnded (after_decision kernel visit (Takes number taken))) at (record {
        held = Active visit.cpu taken.call;
        there = set_found kernel.slots number (Active visit.cpu taken.call) (Suspended client call) was;
        ended = resumed_result boot kernel.tables number call given (sym (ap has_ended its) ∙ ended);
      })
  resumed visit client call given was false is =
      other_taken visit (thread_in visit.regs) (resumed_taken boot kernel visit call given) (apart_from (thread_in visit.regs) slot is)

  gone : (visit : Visit) (number worker : ℕ) (call : PendingCall) (progress : Progress)
      → slice_get kernel.slots number ≡ Some (Active worker call)
      → progress_in kernel.tables call visit.steps call.phase ≡ Some progress → (same : Bool) → (number == slot) ≡ same
      → IsEnded (goes_out_from kernel visit number progress).kernel slot
  gone visit number worker call progress was e true is =
      let at = (Decides-eqb number slot).0 is in
      let its : held ≡ Active worker call =
      same_held kernel.slots slot held (Active worker call) there
      (subst (λ (n : ℕ). slice_get kernel.slots n ≡ Some (Active worker call)) at was) in
      let left : ThreadSlot = slot_left progress.call (leaving_of number progress.call) in
      let result : has_result progress.call.phase ≡ true =
      progress_result kernel.tables call visit.steps call.phase progress refl (sym (ap has_ended its) ∙ ended) e in
      subst (IsEnded (goes_out_from kernel visit number progress).kernel) at (record {
        held = left;
        there = set_found kernel.slots number left (Active worker call) was;
        ended = left_ended progress.call (leaving_of number progress.call) result;
      })
  gone visit number worker call progress was e false is =
      let left : ThreadSlot = slot_left progress.call (leaving_of number progress.call) in
      record {
        held = held;
        there = set_other kernel.slots number slot left (apart_from number slot is) ∙ there;
        ended = ended;
      }

  all_events : (cpu : ℕ) → EventCases boot kernel cpu (λ (next : Kernel). IsEnded next slot)
  all_events cpu = record {
    answered = λ visit answer inside. ended_as _ slot held there ended;
    comes = λ visit number found bytes inside free lies fits.
        all_cases (new_call_of boot kernel.tables visit.regs number found bytes)
        (λ (taken : Taken). IsEnded (after_decision kernel visit (Takes number taken)) slot)
        (λ (taken : Taken). new_taken visit number taken (free_there kernel.slots number free));
    resumes = λ visit call given inside was offered.
        resumed visit _ call given was (thread_in visit.regs == slot) refl;
    told = λ visit answer its fixed. ended_as _ slot held there ended;
    goes = λ visit number worker call progress its inside was e. gone visit number worker call progress was e (number == slot) refl;
  }

pub ended_calls_stay : EndedCallsStay
ended_calls_stay boot kernel next event slot e ended busy =
    after_one boot kernel next (λ (k : Kernel). IsEnded k slot) event
    (all_events boot kernel slot ended.held ended.there ended.ended busy (cpu_of event)) e
