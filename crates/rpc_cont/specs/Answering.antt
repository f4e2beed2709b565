-- What an answer makes of a call that has asked for something.
use Rattle.std.specs.Prelude.{◌≡◌, ℕ, Bool, List, Option, Some, None, IsSome, IsSomeAnd}
use Rattle.job_model.specs.Asking.{bytes_at}
use Rattle.job_model.specs.Steps.{Ends, Panics, Asks, Advance, Goes, Stops}
use Rattle.rpc_cont.specs.declared.phase.Phase.{Phase}
use Rattle.rpc_cont.specs.declared.phase.Phase.TheVariants as phase
use Rattle.rpc_cont.specs.Advancing.{CanAdvance, phase_after}
use Rattle.rpc_cont.specs.Conts.{job_of, call_owner}
use Rattle.rpc_cont.specs.Running.{HasAsked, HasAskedFor}
use Rattle.rpc_cont.specs.declared.app.ContApp.{ContApp}
use Rattle.rpc_cont.specs.declared.app.ContApp.TheVariants as app
use Rattle.rpc_cont.specs.declared.cont.Cont.{Cont}
use Rattle.rpc_cont.specs.declared.stop.ContStop.{ContStop}
use Rattle.ta_isa.specs.Spelling.{IsValid}
use Rattle.ta_step.specs.Machine.{state_of}
use Rattle.ta_step.specs.Requests.{object_span}
use Rattle.ta_step.specs.State.{State}
use Rattle.ta_step.specs.declared.stop.Request.{Request}
use Rattle.ta_step.specs.declared.stop.Request.TheVariants as request
use Rattle.tee_storage.specs.States.{CanGoOn}
use Rattle.tee_storage.specs.declared.state.ObjectState.{ObjectState}

-- ---- what can be answered

-- its application is an image, and that is valid
abbrev pub HasImage : Option ContApp → Type 0
HasImage None = ⊥
HasImage (Some (app.Image uuid image)) = IsValid image.value
HasImage (Some (app.Native native)) = ⊥
HasImage (Some (app.Dead uuid)) = ⊥

-- the state of a call on an object is there where that is what the machine waits for, and can go on over its bytes
abbrev pub HasObject : State → Request → Option ObjectState → Type 0
HasObject machine request.Time object = object ≡ None
HasObject machine (request.Suspend ms) object = object ≡ None
HasObject machine (request.Object call) None = ⊥
HasObject machine (request.Object call) (Some state) = let span = object_span call in CanGoOn state (bytes_at machine span.0 span.1)

-- the machine waits for the answer to a request
abbrev pub IsUnanswered : Bool → Option ObjectState → State → Type 0
IsUnanswered seen object machine = IsSomeAnd machine.asked (λ wanted. HasAskedFor seen wanted machine × HasObject machine wanted object)

-- the call has asked for something, and has no answer
pub record IsPending {M : Type 0} (bytes : M → List ℕ) (cont : Cont M) : Type 0 where
  pub point : IsSome cont.point
  pub memory : cont.memory ≡ None
  pub request : IsSome cont.request
  pub machine : IsSomeAnd cont.machine (λ m. IsUnanswered cont.cancelled cont.object (state_of bytes m))

-- the call has asked for something on behalf of an image, and takes an answer
pub record CanBeAnswered {M : Type 0} (bytes : M → List ℕ) (cont : Cont M) : Type 0 where
  pub image : HasImage cont.app
  pub pending : IsPending bytes cont

-- ---- what an answer comes to

-- how far it has come, by what it stops with, if it does
abbrev pub phase_behind : Option ContStop → Phase
phase_behind None = phase.Runs
phase_behind (Some stop) = phase_after stop

-- the call runs on, or has asked for something else
abbrev pub IsAnswered : {M : Type 0} → (M → List ℕ) → Cont M → Advance → Type 0
IsAnswered bytes cont (Goes job) = (job ≡ job_of bytes cont) × CanAdvance bytes cont
IsAnswered bytes cont (Stops (Ends end)) = ⊥
IsAnswered bytes cont (Stops (Panics code)) = ⊥
IsAnswered bytes cont (Stops (Asks wanted payload left)) =
    HasAsked bytes (call_owner cont) cont (job_of bytes cont) wanted payload left × (cont.phase ≡ phase.Asks) × CanBeAnswered bytes cont
