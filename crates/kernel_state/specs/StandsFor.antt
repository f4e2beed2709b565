-- When the parts of a core stand for a kernel, table by table.
use Rattle.std.specs.Prelude.{◌≡◌, ℕ, ◌≤◌, not, List, length, map, Option, Some, None, slice_get, count_by}
use Rattle.std.specs.Global.{Box}
use Rattle.kernel_model.specs.History.{is_outside}
use Rattle.kernel_model.specs.Kernel as model
use Rattle.rpc_cont.specs.declared.cont.Cont.{Cont}
use Rattle.thread_slots.specs.declared.slot.Slot.{Slot}
use Rattle.thread_slots.specs.declared.slot.Slot.TheVariants.{Free, Active, Suspended}
use Rattle.kernel_state.specs.Calls.{IsCall}
use Rattle.kernel_state.specs.Processors.{processor_of}
use Rattle.kernel_state.specs.Tables.{HasFreePages, tables_of}
use Rattle.kernel_state.specs.declared.cancellation.Cancellation.{Cancellation}
use Rattle.kernel_state.specs.declared.parts.Parts.{Parts}

-- ---- slots

-- what stands beside the slot is the call's
pub record IsBeside (beside : Cancellation) (call : model.PendingCall) : Type 0 where
  pub session : beside.session ≡ call.session
  pub cancel_id : beside.cancel_id ≡ call.cancel_id
  pub marked : beside.marked ≡ call.marked

-- the slot is the kernel's. Of an active one nothing is kept but what stands beside it
abbrev pub IsSlot : Slot (Box (Cont (List ℕ))) → Cancellation → model.ThreadSlot → Type 0
IsSlot Free beside model.Free = Unit {0}
IsSlot (Active cpu) beside (model.Active worker call) = (cpu ≡ worker) × IsBeside beside call
IsSlot (Suspended client cont) beside (model.Suspended owner call) =
    (client ≡ owner) × IsBeside beside call × IsCall cont.value call
IsSlot _ beside _ = ⊥

-- the same, of slots that may not be there
abbrev pub IsSlotAt : Option (Slot (Box (Cont (List ℕ)))) → Option Cancellation → Option model.ThreadSlot → Type 0
IsSlotAt None None None = Unit {0}
IsSlotAt (Some slot) (Some beside) (Some held) = IsSlot slot beside held
IsSlotAt _ _ _ = ⊥

-- all slots
abbrev pub AreSlots : List (Slot (Box (Cont (List ℕ)))) → List Cancellation → List model.ThreadSlot → Type 0
AreSlots slots beside held =
    (slot : ℕ) → IsSlotAt (slice_get slots slot) (slice_get beside slot) (slice_get held slot)

-- ---- all of it

-- the parts stand for the kernel
pub record StandsFor (parts : Parts) (kernel : model.Kernel) : Type 0 where
  pub cpus : length parts.processors.items ≡ parts.setup.cpus
  pub threads : length parts.slots ≡ parts.setup.threads
  pub slots : AreSlots parts.slots parts.cancellations.items kernel.slots
  pub processors : map processor_of parts.processors.items ≡ kernel.processors
  pub tables : tables_of parts.tables ≡ kernel.tables
  pub pages : HasFreePages parts.setup parts.tables
  -- each processor that is inside has room for its exit
  pub room : count_by (λ processor. not (is_outside processor)) kernel.processors ≤ parts.journal.spare
