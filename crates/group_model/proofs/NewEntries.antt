-- An entry with a new call: what its slot is taken for, by the form of the call, and what is noted of it.
use Rattle.std.proofs.Common.{◌≡◌, ℕ, List, Option, Some, None, refl, ap, ◌∙◌}
use Rattle.std.specs.Prelude.{IsTrue, slice_get}
use Rattle.event_journal.specs.declared.event.Event.TheVariants.{Entry}
use Rattle.ns_ram.specs.declared.read.Read.{Read}
use Rattle.smc_abi.specs.Call.{call_of}
use Rattle.smc_abi.specs.declared.call.Call.{Call}
use Rattle.smc_abi.specs.declared.call.Call.TheVariants.{Fast, Resume, Unknown, WithArg, WithRegdArg, WithRpcArg}
use Rattle.smc_abi.specs.declared.regs.Regs.{Regs}
use Rattle.kernel_model.specs.Application.{Application, Booted}
use Rattle.kernel_model.specs.Argument.{IsNew, is_new, reg}
use Rattle.kernel_model.specs.Decision.{Taken}
use Rattle.kernel_model.specs.Entry.{decision_of}
use Rattle.kernel_model.specs.History.{after_event}
use Rattle.kernel_model.specs.Kernel.{Active, Free, InSlot, Inside, Kernel, PendingCall, Processor, ThreadSlot, Visit}
use Rattle.kernel_model.specs.Kernel.{lowest_free}
use Rattle.kernel_model.specs.Located.{Located}
use Rattle.kernel_model.specs.NewCall.{new_call_in, new_call_of, new_call_with}
use Rattle.kernel_model.specs.Decision.{decided_by}
use Rattle.kernel_model.proofs.FixedAnswer.{decided_errand, decides_all}
use Rattle.kernel_model.proofs.Parts.{AllOf}
use Rattle.kernel_model.proofs.SoundSlots.{free_there}
use Rattle.own_model.proofs.FixedAnswers.{entered}
use Rattle.own_model.proofs.NewEntries.{IsTaken, TakesFree, decided_taken, slot_decides}
use Rattle.own_model.specs.Own.{Entering}
use Rattle.group_model.specs.Read.{Notes, Watched, call_noted, entry_noted, event_noted, slot_noted}
use Rattle.group_model.proofs.NewForms.{NewForms, call_ends}

-- whichever free slot it takes, it holds of each form of the call
abbrev pub OfAllForms : (ℕ → Taken → Type 0) → Booted → Kernel → List ℕ → Type 0
OfAllForms P boot kernel regs = (slot : ℕ) → slice_get kernel.slots slot ≡ Some Free → (at : Located) (bytes : List ℕ) →
    NewForms (new_call_of boot kernel.tables regs slot at bytes) (P slot)

call_decides : (P : ℕ → Taken → Type 0) (boot : Booted) (kernel : Kernel) (regs : List ℕ) (free : Option ℕ)
    → lowest_free kernel.slots ≡ free → OfAllForms P boot kernel regs
    → AllOf (TakesFree P kernel) (decided_by (new_call_with boot kernel.tables regs free))
call_decides P boot kernel regs None lowest all = tt
call_decides P boot kernel regs (Some slot) lowest all =
    let free : slice_get kernel.slots slot ≡ Some Free = free_there kernel.slots slot lowest in
    slot_decides P kernel slot (new_call_in boot kernel.tables regs slot) free
    (call_ends boot kernel.tables regs slot (P slot) (all slot free))

-- what a new call takes a slot for is of one of the forms
pub new_call_taken : (P : ℕ → Taken → Type 0) (boot : Booted) (kernel next : Kernel) (cpu steps slot : ℕ) (regs : Regs)
    (reads : List Read) (now : PendingCall)
    → IsNew regs.a → OfAllForms P boot kernel regs.a
    → slice_get next.processors cpu ≡ Some (Inside regs.a steps (InSlot slot))
    → slice_get next.slots slot ≡ Some (Active cpu now)
    → after_event boot kernel (Entry cpu regs steps reads) ≡ Some next
    → IsTaken P kernel next (record { cpu = cpu; regs = regs.a; steps = steps }) slot now
new_call_taken P boot kernel next cpu steps slot regs reads now is all inside there e =
    let visit : Visit = record { cpu = cpu; regs = regs.a; steps = steps } in
    let found = decides_all (TakesFree P kernel) boot kernel next visit reads (by_call (call_of (reg regs.a 0)) is)
    (entered boot kernel next cpu steps regs reads e) in
    decided_taken P kernel next visit slot now found.value found.holds
    (decided_errand kernel next visit (InSlot slot) found.value found.gives inside) found.gives there
  where
    new : AllOf (TakesFree P kernel) (decided_by (new_call_with boot kernel.tables regs.a (lowest_free kernel.slots)))
    new = call_decides P boot kernel regs.a (lowest_free kernel.slots) refl all

    -- of each of the three calls
    by_call : (call : Call) → IsTrue (is_new call) → AllOf (TakesFree P kernel) (decision_of boot kernel regs.a call)
    by_call (Fast call) is_one = absurd cc
    by_call WithArg is_one = new
    by_call WithRpcArg is_one = new
    by_call WithRegdArg is_one = new
    by_call Resume is_one = absurd cc
    by_call Unknown is_one = absurd cc

-- what is noted of it
pub new_call_noted : (boot : Booted) (app : Application) (kernel next : Kernel) (cpu steps slot : ℕ) (regs : Regs)
    (reads : List Read) (now : PendingCall) (notes : Notes)
    → slice_get next.processors cpu ≡ Some (Inside regs.a steps (InSlot slot)) → slice_get kernel.slots slot ≡ Some Free
    → slice_get next.slots slot ≡ Some (Active cpu now)
    → event_noted boot app kernel next notes (Entry cpu regs steps reads) ≡ call_noted app next.tables notes slot now
new_call_noted boot app kernel next cpu steps slot regs reads now notes inside was is =
    let visit : Visit = record { cpu = cpu; regs = regs.a; steps = steps } in
    let entering : Entering = record { kernel = kernel; next = next; visit = visit; reads = reads } in
    let w : Watched = record { boot = boot; app = app; entering = entering } in
    ap (λ (p : Option Processor). entry_noted w notes p) inside
    ∙ ap (λ (o : Option ThreadSlot). slot_noted w slot notes o (slice_get next.slots slot)) was
    ∙ ap (λ (o : Option ThreadSlot). slot_noted w slot notes (Some Free) o) is
