-- What a resume gives a call, by what the call went out with. By optee_smc.h and optee_msg.h.
use Rattle.std.specs.Prelude.{ℕ, ◌%◌, ◌==◌, ◌&&◌, if◌then◌else◌, List, Option, Some, None}
use Rattle.std.specs.Option.{option_map_or}
use Rattle.rpc_msgs.specs.declared.rpc_buffer.RpcBuffer.{RpcBuffer}
use Rattle.ns_ram.specs.Lane.{is_in_ram}
use Rattle.ns_ram.specs.Reader.{Reader, done, ◌>>=◌}
use Rattle.rpc_msgs.specs.declared.rpc.RpcReply.{RpcReply}
use Rattle.rpc_msgs.specs.Place.{reader_at}
use Rattle.kernel_model.specs.Argument.{pair_at}
use Rattle.kernel_model.specs.Kernel.{PendingCall}
use Rattle.kernel_model.specs.Leaving.{Leaving, Interrupted, WantsBuffer, Requests, FreesBuffer, Finishes, leaving_of}

-- what a call is given
pub data Given : Type 0 where
  Nothing : Given
  -- the buffer that it wanted, or none
  Buffer : RpcBuffer → Given
  NoBuffer : Given
  -- the reply to what it asked for
  Reply : RpcReply → Given

-- the buffer that the registers offer, its address in a1 and a2 and its cookie in a4 and a5. It counts where the
-- address is a multiple of 8 and 4096 bytes lie in RAM there
abbrev pub offered_buffer : List ℕ → Option RpcBuffer
offered_buffer regs =
    let addr = pair_at regs 1 in
    let cookie = pair_at regs 4 in
    if (addr % 8 == 0) && is_in_ram addr 4096 then Some (record { addr = addr; cookie = cookie }) else None

-- what a resume with these registers gives a call that went out so
abbrev pub given_after : List ℕ → Leaving → Reader Given
given_after regs Interrupted = done Nothing
given_after regs WantsBuffer = done (option_map_or Buffer (offered_buffer regs) NoBuffer)
given_after regs (Requests place request) = reader_at place request.wanted >>= (λ reply. done (Reply reply))
given_after regs (FreesBuffer buffer) = done Nothing
given_after regs (Finishes result params) = done Nothing

-- what it gives the call that a slot was left with
abbrev pub given_to : List ℕ → ℕ → PendingCall → Reader Given
given_to regs slot call = given_after regs (leaving_of slot call)

-- the call with the buffer that it was given
abbrev pub call_given : Given → PendingCall → PendingCall
call_given (Buffer buffer) call = record call { buffer = Some buffer }
call_given _ call = call
