-- The kernel: all that an entry and an exit change, as one record of finite maps. This project's own.
use Rattle.std.specs.Prelude.{ℕ, ◌==◌, ◌&&◌, ◌||◌, Bool, true, false, List, [], Option, Some, None, map, position}
use Rattle.std.specs.Prelude.{replicate, slice_set}
use Rattle.base.specs.NumberMap.{NumberMap}
use Rattle.job_model.specs.declared.call_kind.CallKind.{CallKind}
use Rattle.rpc_msgs.specs.declared.rpc_buffer.RpcBuffer.{RpcBuffer}
use Rattle.job_model.specs.Job.{Job}
use Rattle.param_copy.specs.declared.copied.Place.{Place}
use Rattle.rpc_msgs.specs.declared.rpc.Rpc.{Rpc}
use Rattle.session_table.specs.declared.session.Session.{Session}
use Rattle.session_table.specs.declared.waiters.Waiter.{Waiter}
use Rattle.shm_registry.specs.Registered.{Registered}
use Rattle.smc_abi.specs.declared.answer.Answer.{Answer}
use Rattle.kernel_model.specs.Application.{Booted}
use Rattle.ta_params.specs.declared.call_result.CallResult.{CallResult}
use Rattle.ta_params.specs.declared.copied_params.CopiedParams.{CopiedParams}
use Rattle.ta_params.specs.declared.login.Login.{Login}
use Rattle.tee_storage.specs.declared.handle.Handle.{Handle}

-- ---- calls

-- how far it has come
pub data CallPhase : Type 0 where
  -- its application runs
  Runs : Job → CallPhase
  -- its application has asked the normal world for this, with these bytes
  Asks : (job : Job) (wanted : Rpc) (payload : List ℕ) → CallPhase
  -- another call holds its instance; its parameters are kept until it runs
  Waits : (params : CopiedParams) → CallPhase
  -- it has this result, and leaves these parameters, which are written back where its application returned the result.
  -- `told` says that the first exit since has come, and `wakes` is the slot of the call that it is to wake
  Ends : (result : CallResult) (params : CopiedParams) (told : Bool) (wakes : Option ℕ) → CallPhase

-- what a call was whose result its entry settled, as far as its tests had come: nothing that is answered shows it
pub data SettledCall : Type 0 where
  -- of no application and no session; or a call that isn't settled
  Untold : SettledCall
  -- an open with this login, of the call's application
  AnOpen : (login : Login) → SettledCall
  -- an invoke of this function, in the call's session
  AnInvoke : (func : ℕ) → SettledCall
  -- a cancel, in the call's session
  ACancel : SettledCall

-- a call, from its entry to the exit that answers OK
pub record PendingCall : Type 0 where
  -- a7 at its entry
  pub client : ℕ
  pub kind : CallKind
  -- what it was, where its result was settled at its entry
  pub settled : SettledCall
  -- its application's UUID, where it has an application
  pub uuid : Option (List ℕ)
  -- the address of its argument
  pub arg : ℕ
  -- and of the area behind it, for the arguments of its requests, if it has brought one along
  pub area : Option ℕ
  -- where the results of its parameters go
  pub places : List Place
  -- its session and its instance, 0 where it has none
  pub session : ℕ
  pub instance : ℕ
  -- the number by which it can be cancelled; that it was; and that it has seen that, as it does at its next resume
  pub cancel_id : ℕ
  pub marked : Bool
  pub seen : Bool
  -- the steps that its application has done
  pub steps : ℕ
  pub buffer : Option RpcBuffer
  pub phase : CallPhase

-- ---- the parts

-- a thread slot
pub data ThreadSlot : Type 0 where
  Free : ThreadSlot
  -- a processor works on its call
  Active : (cpu : ℕ) (call : PendingCall) → ThreadSlot
  -- its call waits to be resumed by its client
  Suspended : (client : ℕ) (call : PendingCall) → ThreadSlot

-- an instance of an application
pub record Instance : Type 0 where
  pub uuid : List ℕ
  -- one of its entry points panicked
  pub dead : Bool
  -- the slot of the call that holds it
  pub holder : Option ℕ
  -- its memory and its open objects, by their handles: nothing of a dead one, and of a held one, since the job of the
  -- call has them
  pub memory : List ℕ
  pub objects : NumberMap Handle

-- what a processor that is inside came for
pub data Errand : Type 0 where
  -- an answer that was fixed as it came in
  Fixed : Answer → Errand
  -- the call of this slot
  InSlot : (slot : ℕ) → Errand

-- a processor
pub data Processor : Type 0 where
  Outside : Processor
  -- it came in with these registers, and is granted so many steps
  Inside : (regs : List ℕ) (steps : ℕ) (errand : Errand) → Processor

-- what is kept beside slots and processors
pub record Tables : Type 0 where
  pub sessions : NumberMap Session
  pub instances : NumberMap Instance
  -- the calls that wait for an instance, in the order in which they began to. One can outlast its instance
  pub waiters : List Waiter
  -- the registered buffers by their cookies, and the pins
  pub registered : Registered
  -- the number that the next session gets, and the next instance
  pub next_session : ℕ
  pub next_instance : ℕ

-- the whole state
pub record Kernel : Type 0 where
  -- the thread slots, by their number
  pub slots : List ThreadSlot
  -- the processors, by their number
  pub processors : List Processor
  pub tables : Tables

-- nothing is kept as the kernel boots
abbrev pub first_tables : Tables
first_tables = record {
  sessions = [];
  instances = [];
  waiters = [];
  registered = record { buffers = []; pins = [] };
  next_session = 1;
  next_instance = 1;
}

-- the kernel as it boots: all slots free and all processors outside
abbrev pub first_kernel : Booted → Kernel
first_kernel boot =
    record { slots = replicate boot.threads Free; processors = replicate boot.cpus Outside; tables = first_tables }

-- what a call has come to, with the tables as they then are
pub record Progress : Type 0 where
  pub call : PendingCall
  pub tables : Tables

-- ---- slots and processors

-- no call is in the slot
abbrev pub is_free : ThreadSlot → Bool
is_free Free = true
is_free (Active cpu call) = false
is_free (Suspended client call) = false

-- the lowest free slot, if one is free
abbrev pub lowest_free : List ThreadSlot → Option ℕ
lowest_free slots = position is_free slots

-- a processor that comes in: its number, its registers, and the steps that it is granted
pub record Visit : Type 0 where
  pub cpu : ℕ
  pub regs : List ℕ
  pub steps : ℕ

-- the kernel with the visitor's processor inside for this
abbrev pub with_visitor : Kernel → Visit → Errand → Kernel
with_visitor kernel visit errand =
    record kernel { processors = slice_set kernel.processors visit.cpu (Inside visit.regs visit.steps errand) }

-- the kernel with it outside
abbrev pub without_visitor : Kernel → Visit → Kernel
without_visitor kernel visit = record kernel { processors = slice_set kernel.processors visit.cpu Outside }

-- ---- cancelled calls

-- the pending calls of a session that have this number
pub record Cancel : Type 0 where
  pub session : ℕ
  pub cancel_id : ℕ

-- the call is one of them
abbrev pub is_meant : Cancel → PendingCall → Bool
is_meant cancel call = (call.session == cancel.session) && (call.cancel_id == cancel.cancel_id)

-- the call, marked where it is meant
abbrev pub cancelled_call : Cancel → PendingCall → PendingCall
cancelled_call cancel call = record call { marked = is_meant cancel call || call.marked }

-- the slot, with its call marked where that is meant
abbrev pub cancelled_slot : Cancel → ThreadSlot → ThreadSlot
cancelled_slot cancel Free = Free
cancelled_slot cancel (Active cpu call) = Active cpu (cancelled_call cancel call)
cancelled_slot cancel (Suspended client call) = Suspended client (cancelled_call cancel call)

-- all slots, where calls are cancelled at all
abbrev pub cancelled_slots : List ThreadSlot → Option Cancel → List ThreadSlot
cancelled_slots slots None = slots
cancelled_slots slots (Some cancel) = map (cancelled_slot cancel) slots
