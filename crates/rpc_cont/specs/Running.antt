-- What a call comes to as it runs.
use Rattle.std.specs.Prelude.{◌≡◌, ℕ, ◌+◌, Bool, true, List, [], Option, Some, None, IsSome, IsSomeAnd}
use Rattle.job_model.specs.Owner.{Owner}
use Rattle.job_model.specs.Asking.{PendingRequest, bytes_at}
use Rattle.job_model.specs.Job.{Job, of_tee}
use Rattle.job_model.specs.Steps.{JobStop, Ends, Panics, Asks, Advance, Goes, Stops, Grant, Left, Stopped}
use Rattle.rpc_cont.specs.Conts.{job_at, end_left}
use Rattle.rpc_cont.specs.declared.cont.Asked.{Asked}
use Rattle.rpc_cont.specs.declared.cont.Cont.{Cont}
use Rattle.job_model.specs.declared.entry_point.EntryPoint.{EntryPoint}
use Rattle.rpc_cont.specs.declared.stop.ContStop.{ContStop}
use Rattle.rpc_cont.specs.declared.stop.ContStop.TheVariants as stop
use Rattle.rpc_msgs.specs.declared.rpc.Rpc.{Rpc}
use Rattle.rpc_msgs.specs.declared.rpc.Rpc.TheVariants as rpc
use Rattle.ta_isa.specs.declared.image.Image.{Image}
use Rattle.ta_step.specs.Machine.{state_of}
use Rattle.ta_step.specs.Requests.{span_of}
use Rattle.ta_step.specs.State.{State}
use Rattle.ta_step.specs.SystemCalls.{is_range}
use Rattle.ta_step.specs.declared.machine.Machine.{Machine as AnyMachine}
use Rattle.ta_step.specs.declared.stop.Request.{Request}
use Rattle.ta_step.specs.declared.stop.Request.TheVariants as request
use Rattle.tee_storage.specs.States.{StandsFor}
use Rattle.tee_storage.specs.declared.state.ObjectState.{ObjectState}
use Rattle.tee_storage.specs.declared.step.StorageStep.TheVariants as storage

-- ---- a call that runs

-- the machine waits for nothing, and its flag is as the call has seen it
abbrev pub IsReady : Bool → State → Type 0
IsReady cancelled machine = (machine.asked ≡ None) × (machine.cancelled ≡ cancelled)

-- it is at an entry point, and has a machine that can run
abbrev pub HasReady : {M : Type 0} → (M → List ℕ) → Bool → Option EntryPoint → Option (AnyMachine M) → Type 0
HasReady bytes cancelled point machine = IsSomeAnd point (λ here. IsSomeAnd machine (λ m. IsReady cancelled (state_of bytes m)))

-- it has no machine and no memory, and has asked for nothing
pub record IsIdle {M : Type 0} (cont : Cont M) : Type 0 where
  pub machine : cont.machine ≡ None
  pub memory : cont.memory ≡ None
  pub request : cont.request ≡ None
  pub object : cont.object ≡ None

-- a call of an image whose machine can run, and which has asked for nothing
pub record IsRunning {M : Type 0} (bytes : M → List ℕ) (cont : Cont M) : Type 0 where
  pub memory : cont.memory ≡ None
  pub request : cont.request ≡ None
  pub object : cont.object ≡ None
  pub machine : HasReady bytes cont.cancelled cont.point cont.machine

-- ---- a call that waits for an answer

-- the object call that waits has come so far, with these bytes of memory, for this request
abbrev pub HasCome : {M : Type 0} → Owner → List ℕ → PendingRequest → Cont M → Request → Option Asked → Option ObjectState → Type 0
HasCome owner range asked cont (request.Object call) (Some pending) (Some state) =
    let step = storage.Ask pending.rpc pending.payload in
    StandsFor state call owner.uuid owner.key asked.range asked.objects asked.answers (record { step = step; range = range; objects = cont.objects })
HasCome owner range asked cont request.Time (Some pending) None =
    (asked ≡ record { request = request.Time; range = []; objects = cont.objects; answers = [] })
    × (pending ≡ record { rpc = rpc.Time; payload = [] })
HasCome owner range asked cont (request.Suspend ms) (Some pending) None =
    (asked ≡ record { request = request.Suspend ms; range = []; objects = cont.objects; answers = [] })
    × (pending ≡ record { rpc = rpc.Suspend ms; payload = [] })
HasCome owner range asked cont _ _ _ = ⊥

-- the machine waits for the answer to this, whose bytes it has, and its flag is so
pub record HasAskedFor (seen : Bool) (wanted : Request) (machine : State) : Type 0 where
  pub asks : machine.asked ≡ Some wanted
  pub flag : machine.cancelled ≡ seen
  pub in_range : (let span = span_of wanted in is_range machine span.0 span.1 ≡ true)

-- it waits for the answer to this, and the call has come so far with it
pub record Awaits {M : Type 0} (owner : Owner) (cont : Cont M) (asked : PendingRequest) (machine : State) : Type 0 where
  pub asks : HasAskedFor cont.cancelled asked.request machine
  pub come : (let span = span_of asked.request in HasCome owner (bytes_at machine span.0 span.1) asked cont asked.request cont.request cont.object)

-- the call, which would be at the job `plain` if it ran, stands for this one, which waits for an answer
pub record IsWaiting {M : Type 0} (bytes : M → List ℕ) (owner : Owner) (cont : Cont M) (plain job : Job) : Type 0 where
  pub memory : cont.memory ≡ None
  pub point : IsSome cont.point
  pub same : job ≡ record plain { asked = job.asked }
  pub asked : IsSomeAnd job.asked (λ asked. IsSomeAnd cont.machine (λ m. Awaits owner cont asked (state_of bytes m)))

-- the machine has asked for this and has no answer, and the call hasn't begun on it
pub record IsAsking {M : Type 0} (bytes : M → List ℕ) (cont : Cont M) (wanted : Request) : Type 0 where
  pub memory : cont.memory ≡ None
  pub object : cont.object ≡ None
  pub machine : IsSomeAnd cont.machine (λ m. HasAskedFor cont.cancelled wanted (state_of bytes m))

-- ---- why it stops

-- it has nothing left to run, and nothing to ask for
pub record IsOver {M : Type 0} (cont : Cont M) : Type 0 where
  pub machine : cont.machine ≡ None
  pub request : cont.request ≡ None
  pub object : cont.object ≡ None

-- it has asked for this
abbrev pub HasAsked : {M : Type 0} → (M → List ℕ) → Owner → Cont M → Job → Rpc → List ℕ → Job → Type 0
HasAsked bytes owner cont plain wanted payload left =
    IsWaiting bytes owner cont plain left × (cont.request ≡ Some (record { rpc = wanted; payload = payload }))

-- an answer, and the call behind it, are those of a stop
abbrev pub IsStop : {M : Type 0} → (M → List ℕ) → Owner → Cont M → Job → JobStop → ContStop → Type 0
IsStop bytes owner cont plain (Ends end) answer = (answer ≡ stop.Ended end.result) × (end ≡ end_left bytes cont) × IsOver cont
IsStop bytes owner cont plain (Panics code) answer =
    (answer ≡ stop.Panicked code) × (cont.result ≡ of_tee 0xffff3024) × IsOver cont
IsStop bytes owner cont plain (Asks wanted payload left) answer =
    (answer ≡ stop.Asks) × HasAsked bytes owner cont plain wanted payload left

-- ---- a call of an image

-- what it comes to: it runs on, or has stopped
abbrev pub IsTurn : {M : Type 0} → (M → List ℕ) → Owner → Image → Cont M → Advance → Option ContStop → Type 0
IsTurn bytes owner image cont (Goes job) answer = (answer ≡ None) × (job ≡ job_at bytes owner image cont) × IsRunning bytes cont
IsTurn bytes owner image cont (Stops why) answer = IsSomeAnd answer (λ a. IsStop bytes owner cont (job_at bytes owner image cont) why a)

-- what a grant of so many steps comes to, of a call that had done so many
abbrev pub IsRun : {M : Type 0} → (M → List ℕ) → Owner → Image → Cont M → ℕ → ℕ → Grant → ContStop → Type 0
IsRun bytes owner image cont before steps (Left job) answer =
    (answer ≡ stop.Interrupted) × (job ≡ job_at bytes owner image cont) × IsRunning bytes cont × (cont.steps ≡ before + steps)
IsRun bytes owner image cont before steps (Stopped used why) answer =
    IsStop bytes owner cont (job_at bytes owner image cont) why answer × (cont.steps ≡ before + used)

-- the call with what a run changes of it beside the steps
abbrev pub worked : {M : Type 0} → Cont M → Cont M → Cont M
worked old new = record old {
  context = new.context;
  params = new.params;
  memory = new.memory;
  point = new.point;
  machine = new.machine;
  points = new.points;
  result = new.result;
  objects = new.objects;
  object = new.object;
  request = new.request;
}
