-- An entry with a new call: what its slot is taken for, and what is noted of it.
use Rattle.std.proofs.Common.{◌≡◌, ℕ, true, List, Option, Some, None, Ok, Err, refl, ap, subst, ◌∙◌}
use Rattle.std.specs.Prelude.{IsTrue, slice_get, slice_set}
use Rattle.std.proofs.lemmas.List.Quantifiers.{position-Some}
use Rattle.std.proofs.lemmas.Option.{slice_get-get_or}
use Rattle.event_journal.specs.declared.event.Event.TheVariants.{Entry}
use Rattle.ns_ram.specs.Attempt.{Attempt, passes, ◌>>=◌}
use Rattle.ns_ram.specs.declared.read.Read.{Read}
use Rattle.ns_ram.specs.Reader.{done, want_bytes, want_words}
use Rattle.smc_abi.specs.declared.answer.Answer.{Answer}
use Rattle.smc_abi.specs.Call.{call_of}
use Rattle.smc_abi.specs.declared.call.Call.{Call}
use Rattle.smc_abi.specs.declared.call.Call.TheVariants.{Fast, Resume, Unknown, WithArg, WithRegdArg, WithRpcArg}
use Rattle.smc_abi.specs.declared.regs.Regs.{Regs}
use Rattle.kernel_model.specs.Application.{Booted}
use Rattle.kernel_model.specs.Argument.{IsNew, is_new, reg}
use Rattle.kernel_model.specs.Decision.{Answers, Decision, Taken, Takes, decided_by}
use Rattle.kernel_model.specs.Entry.{after_decision, decision_of}
use Rattle.kernel_model.specs.History.{after_event}
use Rattle.kernel_model.specs.Kernel.{Active, Free, InSlot, Inside, Kernel, PendingCall, Processor, Suspended}
use Rattle.kernel_model.specs.Kernel.{ThreadSlot, Visit, cancelled_slots, is_free, lowest_free}
use Rattle.kernel_model.specs.Located.{Located}
use Rattle.kernel_model.specs.NewCall.{new_call_in, new_call_of, new_call_with}
use Rattle.kernel_model.proofs.FixedAnswer.{decided_errand, decides_all, errand_of}
use Rattle.kernel_model.proofs.Parts.{AllOf, set_then_read}
use Rattle.kernel_model.proofs.Tests.{TakenIn}
use Rattle.own_model.proofs.FixedAnswers.{entered}
use Rattle.own_model.proofs.NewCalls.{OfAllEndings, call_ends}
use Rattle.own_model.specs.Own.{Entering, Notes, Resuming, call_noted, entry_noted, event_noted, slot_noted}

-- ---- what is decided

-- a free slot is taken for something of which this holds
abbrev pub TakesFree : (ℕ → Taken → Type 0) → Kernel → Decision → Type 0
TakesFree P kernel (Answers answer) = Unit {0}
TakesFree P kernel (Takes slot taken) = (slice_get kernel.slots slot ≡ Some Free) × P slot taken

is_free_slot : (held : ThreadSlot) → is_free held ≡ true → held ≡ Free
is_free_slot Free e = refl
is_free_slot (Active cpu call) e = absurd cc
is_free_slot (Suspended client call) e = absurd cc

free_there : (slots : List ThreadSlot) (slot : ℕ) → lowest_free slots ≡ Some slot → slice_get slots slot ≡ Some Free
free_there slots slot lowest =
    let found = position-Some is_free slots slot Free lowest in
    slice_get-get_or slots slot Free found.0 ∙ ap (λ (held : ThreadSlot). Some held) (is_free_slot _ found.1)

pub slot_decides : (P : ℕ → Taken → Type 0) (kernel : Kernel) (slot : ℕ) (attempt : Attempt Answer Taken)
    → slice_get kernel.slots slot ≡ Some Free
    → AllOf (TakenIn (P slot)) attempt
    → AllOf (TakesFree P kernel) (decided_by (attempt >>= (λ taken. passes (slot, taken))))
slot_decides P kernel slot (done (Ok taken)) free all = (free, all)
slot_decides P kernel slot (done (Err answer)) free all = tt
slot_decides P kernel slot (want_bytes addr len next) free all =
    λ got. slot_decides P kernel slot (next got) free (all got)
slot_decides P kernel slot (want_words addr most test next) free all =
    λ got. slot_decides P kernel slot (next got) free (all got)

-- whichever free slot it takes, it holds of each way in which the call can end
abbrev pub OfAllCalls : (ℕ → Taken → Type 0) → Booted → Kernel → List ℕ → Type 0
OfAllCalls P boot kernel regs = (slot : ℕ) → slice_get kernel.slots slot ≡ Some Free → (at : Located) (bytes : List ℕ) →
    OfAllEndings (P slot) (new_call_of boot kernel.tables regs slot at bytes)

pub call_decides : (P : ℕ → Taken → Type 0) (boot : Booted) (kernel : Kernel) (regs : List ℕ) (free : Option ℕ)
    → lowest_free kernel.slots ≡ free → OfAllCalls P boot kernel regs
    → AllOf (TakesFree P kernel) (decided_by (new_call_with boot kernel.tables regs free))
call_decides P boot kernel regs None lowest all = tt
call_decides P boot kernel regs (Some slot) lowest all =
    let free : slice_get kernel.slots slot ≡ Some Free = free_there kernel.slots slot lowest in
    slot_decides P kernel slot (new_call_in boot kernel.tables regs slot) free
    (call_ends boot kernel.tables regs slot (P slot) (all slot free))

-- ---- the entry

-- the slot was free, and is taken for something of which this holds, with this call
pub record IsTaken (P : ℕ → Taken → Type 0) (kernel next : Kernel) (visit : Visit) (slot : ℕ)
    (now : PendingCall) : Type 0 where
  pub taken : Taken
  pub holds : P slot taken
  pub free : slice_get kernel.slots slot ≡ Some Free
  pub call_is : taken.call ≡ now
  pub gives : after_decision kernel visit (Takes slot taken) ≡ next

same_call : (cpu : ℕ) (call now : PendingCall) → Active cpu call ≡ Active cpu now → call ≡ now
same_call cpu call now e = cc

pub decided_taken : (P : ℕ → Taken → Type 0) (kernel next : Kernel) (visit : Visit) (slot : ℕ) (now : PendingCall)
    (decision : Decision)
    → TakesFree P kernel decision → errand_of decision ≡ InSlot slot → after_decision kernel visit decision ≡ next
    → slice_get next.slots slot ≡ Some (Active visit.cpu now) → IsTaken P kernel next visit slot now
decided_taken P kernel next visit slot now (Answers answer) holds errand gives there = absurd cc
decided_taken P kernel next visit slot now (Takes at taken) holds errand gives there =
    let same : at ≡ slot = cc in
    let held : ThreadSlot = Active visit.cpu taken.call in
    let read : slice_get (slice_set (cancelled_slots kernel.slots taken.cancels) at held) at
    ≡ Some (Active visit.cpu now) =
    ap (λ (k : Kernel). slice_get k.slots at) gives ∙ ap (λ n. slice_get next.slots n) same ∙ there in
    subst (λ n. IsTaken P kernel next visit n now) same (record {
      taken = taken;
      holds = holds.1;
      free = holds.0;
      call_is =
          same_call visit.cpu taken.call now (set_then_read (cancelled_slots kernel.slots taken.cancels) at held
          (Active visit.cpu now) read);
      gives = gives;
    })

pub new_call_taken : (P : ℕ → Taken → Type 0) (boot : Booted) (kernel next : Kernel) (cpu steps slot : ℕ) (regs : Regs)
    (reads : List Read) (now : PendingCall)
    → IsNew regs.a → OfAllCalls P boot kernel regs.a
    → slice_get next.processors cpu ≡ Some (Inside regs.a steps (InSlot slot))
    → slice_get next.slots slot ≡ Some (Active cpu now)
    → after_event boot kernel (Entry cpu regs steps reads) ≡ Some next
    → IsTaken P kernel next (record { cpu = cpu; regs = regs.a; steps = steps }) slot now
new_call_taken P boot kernel next cpu steps slot regs reads now is all inside there e =
    let visit : Visit = record { cpu = cpu; regs = regs.a; steps = steps } in
    let decides = by_call (call_of (reg regs.a 0)) is in
    let found = decides_all (TakesFree P kernel) boot kernel next visit reads decides
    (entered boot kernel next cpu steps regs reads e) in
    decided_taken P kernel next visit slot now found.value found.holds
    (decided_errand kernel next visit (InSlot slot) found.value found.gives inside) found.gives there
  where
    new : AllOf (TakesFree P kernel) (decided_by (new_call_with boot kernel.tables regs.a (lowest_free kernel.slots)))
    new = call_decides P boot kernel regs.a (lowest_free kernel.slots) refl all

    -- of each of the three calls
    by_call : (call : Call) → IsTrue (is_new call) → AllOf (TakesFree P kernel) (decision_of boot kernel regs.a call)
    by_call (Fast call) is_one = absurd cc
    by_call WithArg is_one = new
    by_call WithRpcArg is_one = new
    by_call WithRegdArg is_one = new
    by_call Resume is_one = absurd cc
    by_call Unknown is_one = absurd cc

-- what is noted of it
pub new_call_noted : (session : ℕ) (kernel next : Kernel) (cpu steps slot : ℕ) (regs : Regs) (reads : List Read)
    (now : PendingCall) (notes : Notes)
    → slice_get next.processors cpu ≡ Some (Inside regs.a steps (InSlot slot)) → slice_get kernel.slots slot ≡ Some Free
    → slice_get next.slots slot ≡ Some (Active cpu now)
    → event_noted session kernel next notes (Entry cpu regs steps reads) ≡ call_noted session notes slot now
new_call_noted session kernel next cpu steps slot regs reads now notes inside was is =
    let visit : Visit = record { cpu = cpu; regs = regs.a; steps = steps } in
    let at : Entering = record { kernel = kernel; next = next; visit = visit; reads = reads } in
    let r : Resuming = record { regs = regs.a; reads = reads; slot = slot } in
    ap (λ (p : Option Processor). entry_noted session at notes p) inside
    ∙ ap (λ (o : Option ThreadSlot). slot_noted session r notes o (slice_get next.slots slot)) was
    ∙ ap (λ (o : Option ThreadSlot). slot_noted session r notes (Some Free) o) is
