-- What a call goes out with, by the phase in which it is shown. By optee_smc.h.
use Rattle.std.specs.Prelude.{ℕ, List, [], Option, Some, None}
use Rattle.std.specs.Option.{option_map_or}
use Rattle.rpc_msgs.specs.declared.request_place.RequestPlace.{RequestPlace}
use Rattle.rpc_msgs.specs.declared.rpc_buffer.RpcBuffer.{RpcBuffer}
use Rattle.rpc_msgs.specs.Place.{place_for}
use Rattle.rpc_msgs.specs.declared.rpc.Rpc.{Rpc}
use Rattle.rpc_msgs.specs.declared.rpc.Rpc.TheVariants as rpc
use Rattle.ta_params.specs.declared.call_result.CallResult.{CallResult}
use Rattle.ta_params.specs.declared.copied_params.CopiedParams.{CopiedParams}
use Rattle.kernel_model.specs.Kernel.{CallPhase, Runs, Asks, Waits, Ends, PendingCall}

-- what is asked of the normal world, and the bytes that go with it
pub record Request : Type 0 where
  pub wanted : Rpc
  pub payload : List ℕ

-- a request that has no bytes beside it
abbrev pub plain_request : Rpc → Request
plain_request wanted = record { wanted = wanted; payload = [] }

-- what a call goes out with
pub data Leaving : Type 0 where
  -- its application still runs
  Interrupted : Leaving
  -- it asks for something, and wants a place for that first
  WantsBuffer : Leaving
  -- it asks for this, at this place
  Requests : (place : RequestPlace) (request : Request) → Leaving
  -- it has ended, and gives its buffer back first
  FreesBuffer : (buffer : RpcBuffer) → Leaving
  -- it has ended with this result, and leaves these parameters
  Finishes : (result : CallResult) (params : CopiedParams) → Leaving

-- where a request of the call goes, if it has a place: its area, its buffer, or both. Nothing else asks that
abbrev pub place_of : PendingCall → Request → Option RequestPlace
place_of call request = place_for call.area call.buffer request.wanted

-- the call asks for this
abbrev pub asks_for : PendingCall → Request → Leaving
asks_for call request = option_map_or (λ place. Requests place request) (place_of call request) WantsBuffer

-- the call of a slot in this phase: one that has ended wakes first whom it is to wake, and then gives its buffer back
abbrev pub leaving_in : ℕ → PendingCall → CallPhase → Leaving
leaving_in slot call (Runs job) = Interrupted
leaving_in slot call (Asks job wanted payload) = asks_for call (record { wanted = wanted; payload = payload })
leaving_in slot call (Waits params) = asks_for call (plain_request (rpc.Sleep slot))
leaving_in slot call (Ends result params told (Some woken)) = asks_for call (plain_request (rpc.Wake woken))
leaving_in slot call (Ends result params told None) = option_map_or FreesBuffer call.buffer (Finishes result params)

-- the call of a slot
abbrev pub leaving_of : ℕ → PendingCall → Leaving
leaving_of slot call = leaving_in slot call call.phase
