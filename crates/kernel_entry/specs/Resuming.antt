-- A call that is resumed: when the parts of a core let it, and what it comes to.
use Rattle.std.specs.Prelude.{◌≡◌, ℕ, ◌<◌, List, length, Some, slice_get}
use Rattle.std.specs.Global.{Box}
use Rattle.std.specs.Result.{IsOk}
use Rattle.kernel_model.specs.Argument.{client_in, thread_in}
use Rattle.kernel_model.specs.Given.{Given}
use Rattle.kernel_model.specs.Kernel.{PendingCall, Progress}
use Rattle.kernel_model.specs.Resume.{onward_of, resumed_call}
use Rattle.kernel_state.specs.Calls.{IsCall}
use Rattle.kernel_state.specs.Setup.{boot_of, booted_of_setup}
use Rattle.kernel_state.specs.Tables.{HasFreePages, tables_of}
use Rattle.kernel_state.specs.declared.cancellation.Cancellation.{Cancellation}
use Rattle.kernel_state.specs.declared.parts.Parts.{Parts}
use Rattle.kernel_state.specs.declared.tables.Tables.{Tables}
use Rattle.resumed_calls.specs.Deciding.{IsAppIn, IsHandedOut}
use Rattle.resumed_calls.specs.Giving.{given_as}
use Rattle.resumed_calls.specs.Onward.{HasCome}
use Rattle.resumed_calls.specs.Resuming.{CanResume}
use Rattle.resumed_calls.specs.declared.deciding.Decided.{Decided}
use Rattle.resumed_calls.specs.declared.resuming.Resumed.{Resumed}
use Rattle.rpc_cont.specs.declared.cont.Cont.{Cont}
use Rattle.ta_isa.specs.Boots.{IsBoot}
use Rattle.thread_slots.specs.Slots.{resumed}
use Rattle.thread_slots.specs.declared.slot.Slot.{Slot}

-- a call is handed out to the client that these registers name
abbrev pub IsSuspended : List (Slot (Box (Cont (List ℕ)))) → List ℕ → Type 0
IsSuspended slots regs = IsOk (resumed slots (thread_in regs) (client_in regs))

-- how it is resumed, with what stands beside its slot
abbrev pub resumed_as : List ℕ → Cancellation → Decided → Resumed
resumed_as regs beside decided =
    record { slot = thread_in regs; marked = beside.marked; given = decided.given; app = decided.app }

-- the call that is handed out can be resumed, as what stands beside its slot says
abbrev pub IsResumable : Parts → List ℕ → Decided → Type 0
IsResumable parts regs decided = (cont : Box (Cont (List ℕ))) (beside : Cancellation) →
    IsHandedOut parts.slots regs cont → slice_get parts.cancellations.items (thread_in regs) ≡ Some beside →
    ∥ CanResume (booted_of_setup parts.setup) (tables_of parts.tables) (resumed_as regs beside decided) cont.value ∥₁

-- the call that these registers name can go on with this
pub record CanGoOn (parts : Parts) (regs : List ℕ) (decided : Decided) : Type 0 where
  pub suspended : IsSuspended parts.slots regs
  pub slot : decided.slot ≡ thread_in regs
  pub beside : thread_in regs < length parts.cancellations.items
  pub resumable : IsResumable parts regs decided
  pub app : IsAppIn (booted_of_setup parts.setup) parts.slots regs (Some decided)
  pub is_boot : IsBoot (boot_of parts.setup)
  pub pages : HasFreePages parts.setup parts.tables

-- what a call comes to that goes on with it
abbrev pub goes_on_as : Parts → List ℕ → Decided → PendingCall → Progress
goes_on_as parts regs decided call =
    let given : Given = given_as decided.given in
    onward_of (resumed_call (booted_of_setup parts.setup) (tables_of parts.tables) (thread_in regs) call given)

-- the call that is handed out, as what stands beside its slot says, has come to this
abbrev pub HasGoneOn : Parts → List ℕ → Decided → Tables → Cont (List ℕ) → Type 0
HasGoneOn parts regs decided tables after = (cont : Box (Cont (List ℕ))) (beside : Cancellation) (call : PendingCall) →
    IsHandedOut parts.slots regs cont → slice_get parts.cancellations.items (thread_in regs) ≡ Some beside →
    IsCall cont.value call → call.marked ≡ beside.marked →
    HasCome (tables_of tables) after (goes_on_as parts regs decided call)
