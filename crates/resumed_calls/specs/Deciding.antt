-- What a resume decides of the slots.
use Rattle.std.specs.Prelude.{◌≡◌, ℕ, List, Option, Some, None, Ok, IsSomeAnd}
use Rattle.std.specs.Global.{Box}
use Rattle.kernel_model.specs.Application.{Booted}
use Rattle.kernel_model.specs.Argument.{client_in, thread_in}
use Rattle.kernel_model.specs.Given.{given_to}
use Rattle.kernel_model.specs.Kernel.{PendingCall, ThreadSlot}
use Rattle.kernel_model.specs.Resume.{call_resumed_by}
use Rattle.kernel_state.specs.StandsFor.{AreSlots}
use Rattle.kernel_state.specs.declared.cancellation.Cancellation.{Cancellation}
use Rattle.ns_ram.specs.Lane.{IsInRam}
use Rattle.ns_ram.specs.Reader.{over_lane}
use Rattle.ns_ram.specs.declared.read.Read.{Read}
use Rattle.rpc_cont.specs.declared.cont.Cont.{Cont}
use Rattle.rpc_msgs.specs.declared.rpc_buffer.RpcBuffer.{RpcBuffer}
use Rattle.thread_slots.specs.Slots.{resumed}
use Rattle.thread_slots.specs.declared.slot.Slot.{Slot}
use Rattle.resumed_calls.specs.Giving.{given_as}
use Rattle.resumed_calls.specs.Waiting.{IsAppFor}
use Rattle.resumed_calls.specs.declared.deciding.Decided.{Decided}

-- the slots stand for a kernel's, and the area and the buffer of the call that a resume with these registers is for lie in
-- RAM
pub record CanDecide (slots : List (Slot (Box (Cont (List ℕ))))) (regs : List ℕ) : Type 0 where
  pub beside : List Cancellation
  pub held : List ThreadSlot
  pub stand : AreSlots slots beside held
  pub area : (call : PendingCall) (area : ℕ) → call_resumed_by held regs ≡ Some call → call.area ≡ Some area → IsInRam area 160
  pub placed : (call : PendingCall) (buffer : RpcBuffer) → call_resumed_by held regs ≡ Some call →
      call.buffer ≡ Some buffer → IsInRam buffer.addr 4096

-- the call is given this, by what is read of the lane
abbrev pub IsDecidedFor : List ℕ → List ℕ → List Read → Decided → List Read → PendingCall → Type 0
IsDecidedFor regs lane before decided after call =
    over_lane (given_to regs (thread_in regs) call) lane before ≡ Some (given_as decided.given, after)

-- of these slots and this lane, with these reads before and after: there is no call that the resume is for, and nothing
-- is read; or this is decided for that call
abbrev pub IsDecided : List ThreadSlot → List ℕ → List ℕ → List Read → Option (Decided) → List Read → Type 0
IsDecided held regs lane before None after = (call_resumed_by held regs ≡ None) × (after ≡ before)
IsDecided held regs lane before (Some decided) after =
    IsSomeAnd (call_resumed_by held regs) (IsDecidedFor regs lane before decided after)

-- what is decided is for the call of the slot that the registers name
abbrev pub IsInSlot : List ℕ → Option (Decided) → Type 0
IsInSlot regs None = Unit {0}
IsInSlot regs (Some decided) = decided.slot ≡ thread_in regs

-- this call is handed out to the client
abbrev pub IsHandedOut : List (Slot (Box (Cont (List ℕ)))) → List ℕ → Box (Cont (List ℕ)) → Type 0
IsHandedOut slots regs cont = resumed slots (thread_in regs) (client_in regs) ≡ Ok cont

-- the application is that of the call that is handed out, if one is
abbrev pub IsAppIn : Booted → List (Slot (Box (Cont (List ℕ)))) → List ℕ → Option (Decided) → Type 0
IsAppIn boot slots regs None = Unit {0}
IsAppIn boot slots regs (Some decided) =
    (cont : Box (Cont (List ℕ))) → IsHandedOut slots regs cont → IsAppFor boot cont.value decided.app
