-- What a call as data is given.
use Rattle.std.specs.Prelude.{◌≡◌, ℕ, List, Option, Some, None}
use Rattle.kernel_model.specs.Given.{Given, Nothing, Buffer, NoBuffer, Reply}
use Rattle.kernel_model.specs.Kernel.{PendingCall}
use Rattle.kernel_state.specs.Calls.{IsCall}
use Rattle.ns_ram.specs.Lane.{IsInRam}
use Rattle.rpc_cont.specs.declared.cont.Cont.{Cont}
use Rattle.rpc_cont.specs.declared.input.ResumeInput.{ResumeInput}
use Rattle.rpc_cont.specs.declared.input.ResumeInput.TheVariants as input
use Rattle.rpc_msgs.specs.declared.rpc_buffer.RpcBuffer.{RpcBuffer}

-- what is given, as the kernel's definitions see it
abbrev pub given_as : ResumeInput → Given
given_as input.Nothing = Nothing
given_as (input.Buffer addr cookie) = Buffer (record { addr = addr; cookie = cookie })
given_as input.NoBuffer = NoBuffer
given_as (input.Reply reply) = Reply reply.value

-- a buffer, or none
abbrev pub buffer_as : Option RpcBuffer → Given
buffer_as (Some buffer) = Buffer buffer
buffer_as None = NoBuffer

-- it is the call that a slot was left with, and its area and its buffer, if it has them, lie in RAM
pub record CanBeGiven (cont : Cont (List ℕ)) : Type 0 where
  pub call : PendingCall
  pub is : IsCall cont call
  pub area : (area : ℕ) → call.area ≡ Some area → IsInRam area 160
  pub placed : (buffer : RpcBuffer) → call.buffer ≡ Some buffer → IsInRam buffer.addr 4096
