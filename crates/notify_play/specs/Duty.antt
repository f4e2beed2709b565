-- What an exit asks of the desk of signals, by what its processor came in with and by the kernel's own answer. By
-- OP-TEE's optee_smc.h and optee_msg.h.
use Rattle.std.specs.Prelude.{ℕ, ◌==◌, if◌then◌else◌, List, [], ◌∷◌}
use Rattle.event_journal.specs.declared.event.Event.{Event}
use Rattle.event_journal.specs.declared.event.Event.TheVariants.{Entry, Exit}
use Rattle.kernel_model.specs.Argument.{reg}
use Rattle.msg_args.specs.Reading.{head_at}
use Rattle.ns_ram.specs.declared.read.Read.{Read}
use Rattle.smc_abi.specs.Call.{call_of}
use Rattle.smc_abi.specs.declared.call.Call.{Call}
use Rattle.smc_abi.specs.declared.call.Call.TheVariants.{Fast, Resume, Unknown}
use Rattle.smc_abi.specs.declared.call.FastCall.{FastCall}
use Rattle.smc_abi.specs.declared.call.FastCall.TheVariants.{Capabilities}

pub data Duty : Type 0 where
  -- nothing: the kernel's answer is told
  Nothing : Duty
  -- to tell the first pending value: OPTEE_SMC_GET_ASYNC_NOTIF_VALUE
  TellsValue : Duty
  -- to let signals count: OPTEE_SMC_ENABLE_ASYNC_NOTIF
  Enables : Duty
  -- to say that there are notifications: OPTEE_SMC_EXCHANGE_CAPABILITIES
  Offers : Duty
  -- to call the drivers, and leave the answer in the argument at this address: OPTEE_MSG_CMD_DO_BOTTOM_HALF
  RunsBottomHalf : (arg : ℕ) → Duty
  -- to stop: OPTEE_MSG_CMD_STOP_ASYNC_NOTIF
  Stops : (arg : ℕ) → Duty

-- ---- how a processor came in

-- its registers, and what its entry read
pub record CameIn : Type 0 where
  pub regs : List ℕ
  pub reads : List Read

abbrev pub came_with : List ℕ → List Read → CameIn
came_with regs reads = record { regs = regs; reads = reads }

-- the last entry of a processor among these events; or else this one
abbrev pub entered_last : ℕ → CameIn → List Event → CameIn
entered_last cpu before [] = before
entered_last cpu before (Entry came given steps reads ∷ events) =
    entered_last cpu (if came == cpu then came_with given.a reads else before) events
entered_last cpu before (Exit went told ∷ events) = entered_last cpu before events

-- the last entry of a processor that is inside
abbrev pub last_entry : List Event → ℕ → CameIn
last_entry history cpu = entered_last cpu (came_with [] []) history

-- ---- by the call

-- of a command that the kernel doesn't know, with its argument at this address
abbrev pub duty_of_command : ℕ → ℕ → Duty
duty_of_command arg cmd = if cmd == 6 then RunsBottomHalf arg else (if cmd == 7 then Stops arg else Nothing)

-- of a new call with a command that the kernel doesn't know: its entry read the head of its argument, and nothing else
abbrev pub duty_of_head : List Read → Duty
duty_of_head [] = Nothing
duty_of_head (head ∷ reads) = duty_of_command head.addr (head_at head.bytes).cmd

-- of a new call to which the kernel says this in a0, where EBADCMD is 5
abbrev pub duty_of_new : List Read → ℕ → Duty
duty_of_new reads a0 = if a0 == 5 then duty_of_head reads else Nothing

abbrev pub duty_of_fast : FastCall → Duty
duty_of_fast Capabilities = Offers
duty_of_fast _ = Nothing

-- of a call by its function id: one that is neither a fast call, nor a return from RPC, nor unknown is new
abbrev pub duty_of_call : Call → List Read → ℕ → Duty
duty_of_call (Fast call) reads a0 = duty_of_fast call
duty_of_call Resume reads a0 = Nothing
duty_of_call Unknown reads a0 = Nothing
duty_of_call _ reads a0 = duty_of_new reads a0

-- of an exit whose processor came in so, and to which the kernel says this in a0: two function ids are the desk's own
abbrev pub duty_of : CameIn → ℕ → Duty
duty_of came a0 =
    let id = reg came.regs 0 in
    if id == 0xb2000010 then Enables
    else (if id == 0xb2000011 then TellsValue
    else duty_of_call (call_of id) came.reads a0)
