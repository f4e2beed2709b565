-- What a call as data goes out with.
use Rattle.std.specs.Prelude.{ℕ, List, Option, Some, None}
use Rattle.std.specs.Option.{option_and_then, option_map}
use Rattle.kernel_state.specs.declared.leaving.Leaving.{Leaving}
use Rattle.kernel_state.specs.declared.leaving.Leaving.TheVariants.{Interrupted, WantsBuffer, Requests, FreesBuffer, Finishes}
use Rattle.kernel_state.specs.declared.leaving.Wanted.{Wanted}
use Rattle.kernel_state.specs.declared.leaving.Wanted.TheVariants.{Asked, Sleep, Wake}
use Rattle.kernel_model.specs.Leaving as model
use Rattle.kernel_model.specs.Leaving.{Request, plain_request}
use Rattle.kernel_state.specs.Calls.{woken_slot}
use Rattle.rpc_cont.specs.Conts.{kept_params}
use Rattle.rpc_cont.specs.declared.cont.Asked.{Asked as AskedFor}
use Rattle.rpc_cont.specs.declared.cont.Cont.{Cont}
use Rattle.rpc_cont.specs.declared.phase.Phase.{Phase}
use Rattle.rpc_cont.specs.declared.phase.Phase.TheVariants as phase
use Rattle.rpc_msgs.specs.Place.{place_for}
use Rattle.rpc_msgs.specs.declared.request_place.RequestPlace.{RequestPlace}
use Rattle.rpc_msgs.specs.declared.rpc.Rpc.TheVariants as rpc
use Rattle.rpc_msgs.specs.declared.rpc_buffer.RpcBuffer.{RpcBuffer}

-- what the call of a slot asks for, if it does: one that waits sleeps, and one that has ended wakes another
abbrev pub wanted_in : ℕ → Phase → Option AskedFor → Option Wanted
wanted_in slot phase.Runs request = None
wanted_in slot phase.Asks request = option_map (λ asked. Asked) request
wanted_in slot phase.Waits request = Some (Sleep slot)
wanted_in slot phase.Ends request = option_map Wake (option_and_then (λ (asked : AskedFor). woken_slot asked.rpc) request)

-- ---- as the kernel's definitions see it

-- what it has asked for, with its bytes; a call that has asked for nothing never asks for that
abbrev pub asked_request : Option AskedFor → Request
asked_request None = plain_request rpc.Time
asked_request (Some asked) = record { wanted = asked.rpc; payload = asked.payload }

-- what it asks for
abbrev pub request_of : Option AskedFor → Wanted → Request
request_of request Asked = asked_request request
request_of request (Sleep slot) = plain_request (rpc.Sleep slot)
request_of request (Wake slot) = plain_request (rpc.Wake slot)

-- where that goes, by its area and its buffer
abbrev pub place_of : Cont (List ℕ) → Wanted → Option RequestPlace
place_of cont wanted = place_for cont.area cont.buffer (request_of cont.request wanted).wanted

-- what it goes out with
abbrev pub leaving_as : Cont (List ℕ) → Leaving → model.Leaving
leaving_as cont Interrupted = model.Interrupted
leaving_as cont WantsBuffer = model.WantsBuffer
leaving_as cont (Requests place wanted) = model.Requests place (request_of cont.request wanted)
leaving_as cont (FreesBuffer buffer) = model.FreesBuffer buffer
leaving_as cont Finishes = model.Finishes cont.result (kept_params cont.params)

-- ---- what it goes out with

-- one that asks for this, at a place or for one
abbrev pub asking : Wanted → Option RequestPlace → Leaving
asking wanted (Some place) = Requests place wanted
asking wanted None = WantsBuffer

-- one that asks for nothing, by how far it has come, and by its buffer
abbrev pub asking_nothing : Phase → Option RpcBuffer → Leaving
asking_nothing phase.Ends (Some buffer) = FreesBuffer buffer
asking_nothing phase.Ends None = Finishes
asking_nothing _ buffer = Interrupted

abbrev pub leaving_by : Cont (List ℕ) → Option Wanted → Leaving
leaving_by cont (Some wanted) = asking wanted (place_of cont wanted)
leaving_by cont None = asking_nothing cont.phase cont.buffer
