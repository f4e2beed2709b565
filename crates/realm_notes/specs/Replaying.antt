-- What is noted of an event that is done again on a core.
use Rattle.std.specs.Prelude.{◌≡◌, ℕ, List, IfOk, Result, Option, Some, None, slice_get}
use Rattle.std.specs.Global.{Box}
use Rattle.base.specs.declared.no_memory.NoMemory.{NoMemory}
use Rattle.event_journal.specs.declared.event.Event.{Event}
use Rattle.event_journal.specs.declared.event.Event.TheVariants.{Entry}
use Rattle.kernel_entry.specs.declared.visitor.Visitor.{Visitor}
use Rattle.kernel_model.specs.Kernel as model
use Rattle.kernel_state.specs.Meaning.{booted_of, kernel_of}
use Rattle.kernel_state.specs.StandsFor.{StandsFor}
use Rattle.kernel_state.specs.Work.{IsCarriedAs}
use Rattle.kernel_state.specs.declared.kernel_core.Core.{Core}
use Rattle.kernel_state.specs.declared.parts.Parts.{Parts}
use Rattle.kernel_state.specs.declared.processor.Errand.{Errand}
use Rattle.kernel_state.specs.declared.processor.Processor.{Processor}
use Rattle.kernel_state.specs.declared.processor.Processor.TheVariants.{Outside, Inside}
use Rattle.kernel_state.specs.declared.work.Work.{Work}
use Rattle.ns_ram.specs.declared.read.Read.{Read}
use Rattle.realm_model.specs.Reading as realm
use Rattle.realm_notes.specs.Arriving.{IsArrivalIn, Watch}
use Rattle.realm_notes.specs.Noted.{AreNoted}
use Rattle.realm_notes.specs.Realms.{realm_of}
use Rattle.realm_notes.specs.declared.arriving.Arrival.{Arrival}
use Rattle.realm_notes.specs.declared.notes.Notes.{Notes}
use Rattle.rpc_cont.specs.declared.cont.Cont.{Cont}
use Rattle.thread_slots.specs.declared.slot.Slot.{Slot}
use Rattle.thread_slots.specs.declared.slot.Slot.TheVariants.{Suspended}

-- where so much was noted of what came before it, what was noted of an event that was done is too
abbrev pub IsNoted : Core → Core → Notes → Notes → Event → Type 0
IsNoted old new before after event = (kernel next : model.Kernel) (notes : realm.Notes) →
    kernel_of old ≡ Some kernel → kernel_of new ≡ Some next → AreNoted before notes →
    AreNoted after (realm.event_noted (booted_of old) (realm_of before.realm) kernel next notes event)

-- ---- what is seen of the parts

-- what a processor came for, if it is inside
abbrev pub errand_at : Option Processor → Option Errand
errand_at None = None
errand_at (Some Outside) = None
errand_at (Some (Inside regs steps errand)) = Some errand

-- the call that waits in a slot, if one does
abbrev pub left_at : Option (Slot (Box (Cont (List ℕ)))) → Option (Cont (List ℕ))
left_at (Some (Suspended client cont)) = Some cont.value
left_at _ = None

-- ---- an entry

-- the work is that of a processor that has come in for this slot, for which the arrival says what happened
pub record HasArrivedIn (w : Watch) (next : model.Kernel) (visitor : Visitor) (reads : List Read) (came : Arrival) (work : Work)
    (slot : ℕ) : Type 0 where
  pub inside : slice_get next.processors visitor.cpu ≡ Some (model.Inside visitor.regs.a visitor.steps (model.InSlot slot))
  pub call : model.PendingCall
  pub active : slice_get next.slots slot ≡ Some (model.Active visitor.cpu call)
  pub carries : IsCarriedAs work.call call call.phase
  pub is : IsArrivalIn w visitor.regs.a reads slot call next.tables came

-- by what it came for
abbrev pub HasArrivedFor : Watch → model.Kernel → Visitor → List Read → Arrival → Work → model.Errand → Type 0
HasArrivedFor w next visitor reads came work (model.Fixed answer) = w.kernel.tables ≡ next.tables
HasArrivedFor w next visitor reads came work (model.InSlot slot) = HasArrivedIn w next visitor reads came work slot

-- the parts stand for the kernel after it
pub record HasArrived (parts : Parts) (w : Watch) (next : model.Kernel) (visitor : Visitor) (reads : List Read)
    (came : Arrival) (work : Work) : Type 0 where
  pub stands : StandsFor parts next
  pub errand : model.Errand
  pub inside : slice_get next.processors visitor.cpu ≡ Some (model.Inside visitor.regs.a visitor.steps errand)
  pub arrived : HasArrivedFor w next visitor reads came work errand

-- what is noted of the realm by an entry
abbrev pub entry_noted_by : Watch → model.Kernel → Visitor → List Read → realm.Notes
entry_noted_by w next visitor reads =
    realm.event_noted w.boot w.realm w.kernel next w.noted (Entry visitor.cpu visitor.regs visitor.steps reads)

-- where so much was noted, the entry is noted too, or memory was wanting
abbrev pub IsEntryNoted : Watch → Notes → Notes → model.Kernel → Visitor → List Read → Result (Unit {0}) NoMemory → Type 0
IsEntryNoted w old new next visitor reads result = AreNoted old w.noted →
    IfOk result (λ _. AreNoted new (entry_noted_by w next visitor reads))
