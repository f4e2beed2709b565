-- The kernel after an event is what its entry or its exit gives.
use Rattle.std.proofs.Common.{◌≡◌, ℕ, Bool, true, false, List, Option, Some, None}
use Rattle.std.specs.Prelude.{slice_get, if◌then◌else◌}
use Rattle.std.proofs.lemmas.Option.{option_and_then_some}
use Rattle.event_journal.specs.declared.event.Event.TheVariants.{Entry, Exit}
use Rattle.ns_ram.specs.declared.read.Read.{Read}
use Rattle.smc_abi.specs.declared.regs.Regs.{Regs}
use Rattle.kernel_model.specs.Application.{Booted}
use Rattle.kernel_model.specs.Exit.{Exited, exit}
use Rattle.kernel_model.specs.History.{after_event, entry_from, exit_to}
use Rattle.kernel_model.specs.Entry.{after_entry}
use Rattle.kernel_model.specs.Kernel.{Kernel, Visit}

-- ---- events

if_some : {A : Type 0} (test : Bool) (o : Option A) (a : A) → (if test then o else None) ≡ Some a → o ≡ Some a
if_some true o a e = e
if_some false o a e = absurd cc

-- the kernel after an entry is one that its decision gives
pub entered : (boot : Booted) (kernel next : Kernel) (cpu steps : ℕ) (regs : Regs) (reads : List Read)
    → after_event boot kernel (Entry cpu regs steps reads) ≡ Some next
    → after_entry boot kernel (record { cpu = cpu; regs = regs.a; steps = steps }) reads ≡ Some next
entered boot kernel next cpu steps regs reads e =
    let visit : Visit = record { cpu = cpu; regs = regs.a; steps = steps } in
    option_and_then_some (entry_from boot kernel visit reads) (slice_get kernel.processors cpu) next e
    (λ processor there onward. if_some _ (after_entry boot kernel visit reads) next onward)

some_same : {A : Type 0} (a b : A) → Some a ≡ Some b → a ≡ b
some_same a b e = cc

if_same : (test : Bool) (a b : Kernel) → (if test then Some a else None) ≡ Some b → a ≡ b
if_same test a b e = some_same a b (if_some test (Some a) b e)

-- the kernel after an exit is the exit's
pub left : (boot : Booted) (kernel next : Kernel) (cpu : ℕ) (regs : Regs)
    → after_event boot kernel (Exit cpu regs) ≡ Some next
    → (exited : Exited) × (exit kernel cpu ≡ Some exited) × (exited.kernel ≡ next)
left boot kernel next cpu regs e =
    option_and_then_some (exit_to regs.a) (exit kernel cpu) next e
    (λ exited there onward. (exited, there, if_same _ exited.kernel next onward))
