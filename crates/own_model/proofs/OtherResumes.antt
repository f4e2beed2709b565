-- A resume: what the slot of its call held, that nothing is noted where that has no number, and that its processor is there.
use Rattle.std.proofs.Common.{◌≡◌, ℕ, Bool, true, false, List, Option, Some, None, refl, ap}
use Rattle.std.specs.Prelude.{slice_get, if◌then◌else◌, ◌==◌}
use Rattle.std.specs.Option.{option_map_or, option_and_then}
use Rattle.std.proofs.lemmas.Option.{option_and_then_some}
use Rattle.base.specs.NumberMap.{get}
use Rattle.event_journal.specs.declared.event.Event.TheVariants.{Entry}
use Rattle.ns_ram.specs.declared.read.Read.{Read}
use Rattle.kernel_model.specs.History.{after_event, entry_from}
use Rattle.smc_abi.specs.declared.regs.Regs.{Regs}
use Rattle.kernel_model.specs.Application.{Booted}
use Rattle.kernel_model.specs.Kernel.{Active, Free, Kernel}
use Rattle.kernel_model.specs.Kernel.{PendingCall, Processor, Suspended, ThreadSlot}
use Rattle.kernel_model.specs.Resume.{suspended_for}
use Rattle.own_model.specs.Own.{Notes, Resuming, resume_noted, slot_noted}
use Rattle.own_model.specs.Tied.{call_in}

-- ---- the entry

pub suspended_holds : (client : ℕ) (held : Option ThreadSlot) (call : PendingCall)
    → suspended_for client held ≡ Some call
    → option_and_then call_in held ≡ Some call
suspended_holds client None call e = absurd cc
suspended_holds client (Some Free) call e = absurd cc
suspended_holds client (Some (Active cpu worked)) call e = absurd cc
suspended_holds client (Some (Suspended owner left)) call e = by_owner (owner == client) e
  where
    by_owner : (test : Bool) → (if test then Some left else None) ≡ Some call → Some left ≡ Some call
    by_owner true is = is
    by_owner false is = absurd cc

pub resumed_noted : (session : ℕ) (r : Resuming) (notes : Notes) (client : ℕ) (call : PendingCall)
    (held now : Option ThreadSlot)
    → suspended_for client held ≡ Some call → get notes.numbering.in_slots r.slot ≡ None
    → slot_noted session r notes held now ≡ notes
resumed_noted session r notes client call None now e none = absurd cc
resumed_noted session r notes client call (Some Free) now e none = absurd cc
resumed_noted session r notes client call (Some (Active cpu worked)) now e none = absurd cc
resumed_noted session r notes client call (Some (Suspended owner left)) None e none = refl
resumed_noted session r notes client call (Some (Suspended owner left)) (Some Free) e none = refl
resumed_noted session r notes client call (Some (Suspended owner left)) (Some (Active cpu now)) e none =
    ap (λ (o : Option ℕ). option_map_or (resume_noted r left now notes) o notes) none
resumed_noted session r notes client call (Some (Suspended owner left)) (Some (Suspended another now)) e none = refl

-- a processor that comes in is there
pub visitor_there : (boot : Booted) (kernel next : Kernel) (cpu steps : ℕ) (regs : Regs) (reads : List Read)
    → after_event boot kernel (Entry cpu regs steps reads) ≡ Some next
    → (processor : Processor) × (slice_get kernel.processors cpu ≡ Some processor)
visitor_there boot kernel next cpu steps regs reads e =
    option_and_then_some (entry_from boot kernel (record { cpu = cpu; regs = regs.a; steps = steps }) reads)
    (slice_get kernel.processors cpu) next e
    (λ processor there onward. (processor, there))
