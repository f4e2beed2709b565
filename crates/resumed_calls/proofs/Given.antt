-- What a resume reads is what the kernel's call is given.
use Rattle.std.proofs.Common.{◌≡◌, ℕ, List, Some, ◌∙◌, ap}
use Rattle.std.proofs.Math.Logic.{∥∥₁_elim}
use Rattle.std.specs.Option.{option_and_then}
use Rattle.kernel_model.specs.Given.{Reply, given_after}
use Rattle.kernel_model.specs.Kernel.{PendingCall}
use Rattle.kernel_model.specs.Leaving as model
use Rattle.kernel_state.specs.Calls.{IsCall}
use Rattle.ns_ram.specs.Reader.{done, over_lane}
use Rattle.ns_ram.specs.declared.read.Read.{Read}
use Rattle.ns_ram.proofs.ReaderLaws.{over_lane-bind}
use Rattle.rpc_cont.specs.declared.cont.Cont.{Cont}
use Rattle.rpc_msgs.proofs.Places.{placed_whole}
use Rattle.rpc_msgs.specs.Place.{HasPlaces, arg_at, buffer_at, reader_at}
use Rattle.rpc_msgs.specs.Request.{IsRequest}
use Rattle.rpc_msgs.specs.declared.rpc.RpcReply.{RpcReply}
use Rattle.rpc_msgs.specs.declared.request_place.RequestPlace.{RequestPlace}
use Rattle.resumed_calls.proofs.Facts.{places_prop, request_prop}
use Rattle.resumed_calls.proofs.Requests.{GoesThere, goes_in}
use Rattle.resumed_calls.specs.Giving.{CanBeGiven}
use Rattle.kernel_state.specs.CallLeaving.{leaving_as, request_of}
use Rattle.kernel_state.specs.declared.leaving.Leaving.{Leaving}
use Rattle.kernel_state.specs.declared.leaving.Leaving.TheVariants.{Requests}
use Rattle.kernel_state.specs.declared.leaving.Wanted.{Wanted}

-- a call goes out so, whichever call of the kernel it is
abbrev pub GoesOut : ℕ → Cont (List ℕ) → Leaving → Type 0
GoesOut slot cont leaving = (call : PendingCall) → IsCall cont call → model.leaving_of slot call ≡ leaving_as cont leaving

-- ---- what is asked for can be answered

when_asked : (slot : ℕ) (cont : Cont (List ℕ)) (place : RequestPlace) (wanted : Wanted) (can : CanBeGiven cont) →
    GoesOut slot cont (Requests place wanted) → GoesThere can.call place (request_of cont.request wanted)
when_asked slot cont place wanted can goes =
    goes_in slot cont can.call can.call.phase place (request_of cont.request wanted) can.is.phase (goes can.call can.is)

pub places_when_asked : (slot : ℕ) (cont : Cont (List ℕ)) (place : RequestPlace) (wanted : Wanted) →
    ∥ CanBeGiven cont ∥₁ → GoesOut slot cont (Requests place wanted) → HasPlaces (arg_at place) (buffer_at place) (request_of cont.request wanted).wanted
places_when_asked slot cont place wanted fact goes =
    let rpc = (request_of cont.request wanted).wanted in
    ∥∥₁_elim fact (places_prop (arg_at place) (buffer_at place) rpc) (λ (can : CanBeGiven cont).
    placed_whole can.call.area can.call.buffer rpc place (when_asked slot cont place wanted can goes).place_is can.area can.placed)

pub request_when_asked : (slot : ℕ) (cont : Cont (List ℕ)) (place : RequestPlace) (wanted : Wanted) →
    ∥ CanBeGiven cont ∥₁ → GoesOut slot cont (Requests place wanted) → IsRequest (request_of cont.request wanted).wanted
request_when_asked slot cont place wanted fact goes =
    ∥∥₁_elim fact (request_prop (request_of cont.request wanted).wanted) (λ (can : CanBeGiven cont). (when_asked slot cont place wanted can goes).fits)

-- ---- what is given

pub replied : (regs lane : List ℕ) (slot : ℕ) (cont : Cont (List ℕ)) (place : RequestPlace) (wanted : Wanted) (reply : RpcReply) (before after : List Read) →
    GoesOut slot cont (Requests place wanted) →
    over_lane (reader_at place (request_of cont.request wanted).wanted) lane before ≡ Some (reply, after) →
    (call : PendingCall) → IsCall cont call →
    over_lane (given_after regs (model.leaving_of slot call)) lane before ≡ Some (Reply reply, after)
replied regs lane slot cont place wanted reply before after goes reads call is =
    let onward : RpcReply → _ = λ (came : RpcReply). done (Reply came) in
    ap (λ (leaving : model.Leaving). over_lane (given_after regs leaving) lane before) (goes call is)
    ∙ over_lane-bind (reader_at place (request_of cont.request wanted).wanted) onward lane before
    ∙ ap (option_and_then (λ (step : RpcReply × List Read). over_lane (onward step.0) lane step.1)) reads
