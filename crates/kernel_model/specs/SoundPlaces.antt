-- Where calls write, in every kernel that a legal history comes to. This project's own.
use Rattle.std.specs.Prelude.{◌≡◌, ℕ, ◌%◌, Some}
use Rattle.std.specs.List.{AllByRecursion}
use Rattle.ns_ram.specs.Lane.{IsInRam}
use Rattle.param_copy.specs.Places.{IsWritable}
use Rattle.rpc_msgs.specs.declared.rpc_buffer.RpcBuffer.{RpcBuffer}
use Rattle.kernel_model.specs.Kernel.{PendingCall}
use Rattle.kernel_model.specs.Sound.{Calls}

-- where a call writes lies in RAM
pub record HasItsPlaces (call : PendingCall) : Type 0 where
  -- the head of its argument, and the places of its parameters there and in their pieces
  pub argument : IsInRam call.arg 32
  pub places : AllByRecursion (IsWritable call.arg) call.places
  -- its area
  pub area : (area : ℕ) → call.area ≡ Some area → IsInRam area 160
  -- its buffer, which begins at a multiple of 8
  pub buffer : (buffer : RpcBuffer) → call.buffer ≡ Some buffer → IsInRam buffer.addr 4096
  pub multiple : (buffer : RpcBuffer) → call.buffer ≡ Some buffer → buffer.addr % 8 ≡ 0

-- of each call
abbrev pub HaveTheirPlaces : Calls → Type 0
HaveTheirPlaces calls = (slot : ℕ) (call : PendingCall) → calls slot ≡ Some call → HasItsPlaces call
