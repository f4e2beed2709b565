-- What an application's request comes to: what it asks the normal world for, or what the application gets. By the
-- TEE Internal Core API, "Wait Function" and "Time Functions"; its numbers are this project's own.
use Rattle.std.specs.Prelude.{ℕ, ◌/◌, ◌%◌, ◌^◌, ◌==◌, Bool, if◌then◌else◌, List, [], ◌∷◌, Option, Some, None, take}
use Rattle.std.specs.Prelude.{drop}
use Rattle.std.specs.Option.{option_map}
use Rattle.base.specs.NumberMap.{NumberMap}
use Rattle.rpc_msgs.specs.Answer.{RpcAnswer, Replied, NoBuffer}
use Rattle.rpc_msgs.specs.declared.rpc.Rpc.{Rpc}
use Rattle.rpc_msgs.specs.declared.rpc.Rpc.TheVariants as rpc
use Rattle.rpc_msgs.specs.declared.rpc.RpcReply.{RpcReply}
use Rattle.ta_step.specs.Addresses.{range_at}
use Rattle.ta_step.specs.Requests.{span_of}
use Rattle.ta_step.specs.State.{State}
use Rattle.ta_step.specs.declared.stop.Request.{Request}
use Rattle.ta_step.specs.declared.stop.Request.TheVariants as request
use Rattle.tee_storage.specs.declared.handle.Handle.{Handle}
use Rattle.tee_storage.specs.declared.step.StorageStep.{StorageStep}
use Rattle.tee_storage.specs.declared.step.StorageStep.TheVariants as storage
use Rattle.tee_storage.specs.ObjectCalls.{Serving, serving}
use Rattle.job_model.specs.Owner.{Owner}

-- a request on its way: the bytes of memory that it names and the open objects, as they were when the application
-- asked, and the answers that the normal world has given since
pub record PendingRequest : Type 0 where
  pub request : Request
  pub range : List ℕ
  pub objects : NumberMap Handle
  pub answers : List RpcAnswer

-- what it comes to next
pub data Asking : Type 0 where
  -- the normal world is asked for this, with these bytes
  Needs : (wanted : Rpc) (payload : List ℕ) → Asking
  -- the application gets these in r0, r1 and r2, as many as its request gives
  Gives : (r0 r1 r2 : ℕ) → Asking
  -- the application panics
  Bad : (code : ℕ) → Asking

-- the same, with the bytes of memory and the open objects as they then are
pub record Ask : Type 0 where
  pub next : Asking
  pub range : List ℕ
  pub objects : NumberMap Handle

-- ---- time and wait

-- TEE_SUCCESS with the seconds and milliseconds of a time that is told in seconds and nanoseconds, or TEE_ERROR_GENERIC
abbrev pub told_time : RpcReply → Asking
told_time reply =
    if reply.ret == 0
    then Gives 0 (reply.v % 2 ^ 32) ((reply.w % 2 ^ 32) / 1000000)
    else Gives 0xffff0000 0 0

abbrev pub asks_time : List RpcAnswer → Option Asking
asks_time [] = Some (Needs rpc.Time [])
asks_time (Replied reply ∷ []) = Some (told_time reply)
asks_time (NoBuffer ∷ []) = Some (Gives 0xffff000c 0 0)
asks_time (answer ∷ another ∷ more) = None

-- the result of a wait, which no reply changes: TEE_SUCCESS, or TEE_ERROR_OUT_OF_MEMORY
abbrev pub wait_result : RpcAnswer → ℕ
wait_result (Replied reply) = 0
wait_result NoBuffer = 0xffff000c

-- TEE_ERROR_CANCEL where the call is cancelled by the time of the answer
abbrev pub asks_wait : ℕ → Bool → List RpcAnswer → Option Asking
asks_wait ms cancelled [] = Some (Needs (rpc.Suspend ms) [])
asks_wait ms cancelled (answer ∷ []) = Some (Gives (if cancelled then 0xffff0002 else wait_result answer) 0 0)
asks_wait ms cancelled (answer ∷ another ∷ more) = None

-- ---- objects

abbrev pub object_asking : StorageStep → Asking
object_asking (storage.Ask wanted payload) = Needs wanted payload
object_asking (storage.Done result value) = Gives result value 0
object_asking (storage.Panic code) = Bad code

abbrev pub object_ask : Serving → Ask
object_ask s = record { next = object_asking s.step; range = s.range; objects = s.objects }

-- ---- the request

-- so many bytes from an address on
abbrev pub bytes_at : State → ℕ → ℕ → List ℕ
bytes_at machine addr count = take count (drop (addr % 0x10000000) (range_at machine addr))

-- those that a request names
abbrev pub range_of : Request → State → List ℕ
range_of wanted machine = let span = span_of wanted in bytes_at machine span.0 span.1

-- of a request that changes neither memory nor objects
abbrev pub ask_unchanged : PendingRequest → Asking → Ask
ask_unchanged asked next = record { next = next; range = asked.range; objects = asked.objects }

-- what a request of this application comes to, where the call is cancelled or not by the time of the last answer;
-- none where there are answers behind the last one that it asks for
abbrev pub comes_to : Owner → Bool → PendingRequest → Request → Option Ask
comes_to owner cancelled asked request.Time = option_map (ask_unchanged asked) (asks_time asked.answers)
comes_to owner cancelled asked (request.Suspend ms) =
    option_map (ask_unchanged asked) (asks_wait ms cancelled asked.answers)
comes_to owner cancelled asked (request.Object call) =
    option_map object_ask (serving call owner.uuid owner.key asked.range asked.objects asked.answers)

abbrev pub ask : Owner → Bool → PendingRequest → Option Ask
ask owner cancelled asked = comes_to owner cancelled asked asked.request
