-- When a call as data stands for a pending call of the kernel.
use Rattle.std.specs.Prelude.{◌≡◌, ℕ, Bool, List, Option, Some, None, IsSome}
use Rattle.std.specs.Option.{option_and_then}
use Rattle.job_model.specs.Job.{of_tee}
use Rattle.job_model.specs.declared.call_kind.CallKind.TheVariants.{Settled}
use Rattle.kernel_model.specs.Kernel.{AnOpen, CallPhase, Runs, Asks, Waits, Ends, PendingCall}
use Rattle.rpc_cont.specs.Advancing.{CanAdvance}
use Rattle.rpc_cont.specs.Answering.{CanBeAnswered}
use Rattle.rpc_cont.specs.Beginning.{IsFresh}
use Rattle.rpc_cont.specs.Conts.{call_owner, job_of, kept_params, uuid_of}
use Rattle.rpc_cont.specs.Running.{HasAsked}
use Rattle.rpc_cont.specs.declared.app.ContApp.{ContApp}
use Rattle.rpc_cont.specs.declared.cont.Cont.{Cont}
use Rattle.rpc_cont.specs.declared.phase.Phase.TheVariants as phase
use Rattle.rpc_msgs.specs.declared.rpc.Rpc.{Rpc}
use Rattle.rpc_msgs.specs.declared.rpc.Rpc.TheVariants as rpc
use Rattle.ta_params.specs.declared.call_result.CallResult.{CallResult}
use Rattle.ta_params.specs.declared.copied_params.CopiedParams.{CopiedParams}
use Rattle.ta_params.specs.declared.login.Login.{Login}

-- a call over pages, which contracts see as their bytes
abbrev pub bytes_of : List ℕ → List ℕ
bytes_of pages = pages

-- ---- phases

-- it waits for its instance with these parameters, and keeps its application. When it begins there, it gets login and
-- context from its session
pub record IsWaiting (cont : Cont (List ℕ)) (brought : CopiedParams) : Type 0 where
  pub phase : cont.phase ≡ phase.Waits
  pub app : IsSome cont.app
  pub fresh : IsFresh cont
  pub params : kept_params cont.params ≡ brought
  pub result : cont.result ≡ of_tee 0

-- the slot that a request wakes
abbrev pub woken_slot : Rpc → Option ℕ
woken_slot (rpc.Wake slot) = Some slot
woken_slot _ = None

-- it has this result: what it may still ask for is to wake a slot
pub record HasEnded (cont : Cont (List ℕ)) (outcome : CallResult) (left : CopiedParams)
    (was_told : Bool) (woken : Option ℕ) : Type 0 where
  pub phase : cont.phase ≡ phase.Ends
  pub result : cont.result ≡ outcome
  pub params : kept_params cont.params ≡ left
  pub told : cont.done ≡ was_told
  pub wakes : option_and_then (λ asked. woken_slot asked.rpc) cont.request ≡ woken

-- it has come as far as the phase says
abbrev pub IsInPhase : Cont (List ℕ) → CallPhase → Type 0
IsInPhase cont (Runs job) = (job ≡ job_of bytes_of cont) × CanAdvance bytes_of cont
IsInPhase cont (Asks job wanted payload) =
    (cont.phase ≡ phase.Asks) × HasAsked bytes_of (call_owner cont) cont (job_of bytes_of cont) wanted payload job
    × CanBeAnswered bytes_of cont
IsInPhase cont (Waits params) = IsWaiting cont params
IsInPhase cont (Ends result params told wakes) = HasEnded cont result params told wakes

-- ---- the call

-- its application, where it has come to have one, is that of this UUID
abbrev pub IsAppOf : Option ContApp → Option (List ℕ) → Type 0
IsAppOf None uuid = Unit {0}
IsAppOf (Some app) uuid = uuid ≡ Some (uuid_of (Some app))

-- where a test has settled it as an open, it has the login that its argument named
abbrev pub KeepsLogin : Cont (List ℕ) → PendingCall → Type 0
KeepsLogin cont call =
    (login : Login) → cont.kind ≡ Settled → call.settled ≡ AnOpen login → cont.login ≡ login

-- the call as data is the kernel's, but for what stands beside its slot
pub record IsCall (cont : Cont (List ℕ)) (call : PendingCall) : Type 0 where
  pub client : cont.client ≡ call.client
  pub kind : cont.kind ≡ call.kind
  pub app : IsAppOf cont.app call.uuid
  pub login : KeepsLogin cont call
  pub arg : cont.arg ≡ call.arg
  pub area : cont.area ≡ call.area
  pub places : cont.places.items ≡ call.places
  pub session : cont.session ≡ call.session
  pub instance : cont.instance ≡ call.instance
  pub seen : cont.cancelled ≡ call.seen
  pub steps : cont.steps ≡ call.steps
  pub buffer : cont.buffer ≡ call.buffer
  pub phase : IsInPhase cont call.phase
