-- A call that has stopped with a request takes an answer.
use Rattle.std.proofs.Common.{◌≡◌, ℕ, zero, suc, List, Option, Some, None, refl, sym, subst}
use Rattle.std.specs.Prelude.{IsSome, IsSomeAnd}
use Rattle.job_model.specs.Owner.{Owner}
use Rattle.job_model.specs.Asking.{PendingRequest, bytes_at}
use Rattle.job_model.specs.Job.{Job}
use Rattle.job_model.specs.Steps.{JobStop, Ends, Panics, Asks, Grant, Left, Stopped, grant_of}
use Rattle.rpc_cont.specs.Advancing.{CanRun, IsAdvance, IsRunnable}
use Rattle.rpc_cont.specs.Answering.{HasImage, HasObject, IsPending}
use Rattle.rpc_cont.specs.Conts.{body_of, job_for, job_with, owner_for}
use Rattle.rpc_cont.specs.Running.{HasCome, IsStop, IsWaiting}
use Rattle.rpc_cont.specs.declared.app.ContApp.{ContApp}
use Rattle.rpc_cont.specs.declared.app.ContApp.TheVariants as app
use Rattle.rpc_cont.specs.declared.cont.Asked.{Asked}
use Rattle.rpc_cont.specs.declared.cont.Cont.{Cont}
use Rattle.job_model.specs.declared.entry_point.EntryPoint.{EntryPoint}
use Rattle.job_model.specs.declared.entry_point.EntryPoint.TheVariants as entry
use Rattle.rpc_cont.specs.declared.stop.ContStop.{ContStop}
use Rattle.rpc_cont.specs.declared.stop.ContStop.TheVariants as stop
use Rattle.rpc_cont.proofs.Asking.{where_there, holds_as, from_there}
use Rattle.ta_step.specs.Machine.{state_of}
use Rattle.ta_step.specs.Requests.{span_of}
use Rattle.ta_step.specs.State.{State}
use Rattle.ta_step.specs.declared.machine.Machine.{Machine as AnyMachine}
use Rattle.ta_step.specs.declared.stop.Request.{Request}
use Rattle.ta_step.specs.declared.stop.Request.TheVariants as request
use Rattle.tee_storage.specs.declared.state.ObjectState.{ObjectState}

-- ---- a call that waits

pub has_object : {M : Type 0} (owner : Owner) (asked : PendingRequest) (cont : Cont M) (machine : State) (wanted : Request) (pending : Option Asked) (object : Option ObjectState)
    → (let span = span_of wanted in HasCome owner (bytes_at machine span.0 span.1) asked cont wanted pending object) → HasObject machine wanted object
has_object owner asked cont machine request.Time None object come = absurd come
has_object owner asked cont machine request.Time (Some pending) None come = refl
has_object owner asked cont machine request.Time (Some pending) (Some state) come = absurd come
has_object owner asked cont machine (request.Suspend ms) None object come = absurd come
has_object owner asked cont machine (request.Suspend ms) (Some pending) None come = refl
has_object owner asked cont machine (request.Suspend ms) (Some pending) (Some state) come = absurd come
has_object owner asked cont machine (request.Object call) None object come = absurd come
has_object owner asked cont machine (request.Object call) (Some pending) None come = absurd come
has_object owner asked cont machine (request.Object call) (Some pending) (Some state) come = come.ready

pub waits-pending : {M : Type 0} (bytes : M → List ℕ) (owner : Owner) (cont : Cont M) (plain job : Job) (pending : Asked)
    → IsWaiting bytes owner cont plain job → cont.request ≡ Some pending → IsPending bytes cont
waits-pending bytes owner cont plain job pending waits is = record {
  point = waits.point;
  memory = waits.memory;
  request = subst (λ (o : Option Asked). IsSome o) (sym is) refl;
  machine =
      from_there job.asked _ waits.asked
      (λ asked at awaits.
      where_there cont.machine _ _ awaits
      (λ m there here. holds_as m.asked (Some asked.request) _ here.asks.asks (here.asks, has_object owner asked cont (state_of bytes m) asked.request cont.request cont.object here.come)));
}

-- ---- a call that was taken on

stop-pending : {M : Type 0} (bytes : M → List ℕ) (owner : Owner) (cont : Cont M) (plain : Job) (why : JobStop) (answer : ContStop)
    → IsStop bytes owner cont plain why answer → answer ≡ stop.Asks → IsPending bytes cont
stop-pending bytes owner cont plain (Ends end) answer (ended, left, none) asks = absurd cc
stop-pending bytes owner cont plain (Panics code) answer (panicked, dead, none) asks = absurd cc
stop-pending bytes owner cont plain (Asks wanted payload left) answer (stops, (waits, is)) asks = waits-pending bytes owner cont plain left _ waits is

grant-pending : {M : Type 0} (bytes : M → List ℕ) (whose : Option ContApp) (cont : Cont M) (before steps : ℕ) (grant : Grant) (answer : ContStop)
    → IsAdvance bytes whose cont before steps grant answer → answer ≡ stop.Asks → IsPending bytes cont
grant-pending bytes whose cont before steps (Left job) answer (interrupted, same, can, count) asks = absurd cc
grant-pending bytes whose cont before steps (Stopped n why) answer (is, count) asks =
    stop-pending bytes (owner_for whose cont.key) cont (job_for bytes whose cont) why answer is asks

pub advance-pending : {M : Type 0} (bytes : M → List ℕ) (whose : Option ContApp) (cont : Cont M) (before steps : ℕ) (o : Option Grant) (answer : ContStop)
    → IsSomeAnd o (λ grant. IsAdvance bytes whose cont before steps grant answer) → answer ≡ stop.Asks → IsPending bytes cont
advance-pending bytes whose cont before steps None answer is asks = absurd is
advance-pending bytes whose cont before steps (Some grant) answer is asks = grant-pending bytes whose cont before steps grant answer is asks

-- only an image asks
abbrev Advanced : {M : Type 0} → (M → List ℕ) → Option ContApp → Cont M → Cont M → ℕ → ContStop → Option EntryPoint → Option (AnyMachine M) → Type 0
Advanced bytes whose old new steps answer point machine =
    IsSomeAnd (grant_of steps (job_with (body_of bytes whose point machine) (owner_for whose old.key) old)) (λ grant. IsAdvance bytes whose new old.steps steps grant answer)

image_at : {M : Type 0} (bytes : M → List ℕ) (whose : Option ContApp) (old new : Cont M) (steps : ℕ) (answer : ContStop) (point : Option EntryPoint) (machine : Option (AnyMachine M))
    → IsRunnable bytes old.cancelled whose point machine → Advanced bytes whose old new steps answer point machine → answer ≡ stop.Asks → HasImage whose
image_at bytes None old new steps answer point machine runs ((ended, left, none), count) asks = absurd cc
image_at bytes (Some (app.Image uuid image)) old new steps answer None machine runs ((ended, left, none), count) asks = absurd cc
image_at bytes (Some (app.Image uuid image)) old new steps answer (Some here) machine runs is asks = runs.0
image_at bytes (Some (app.Dead uuid)) old new steps answer None machine runs ((ended, left, none), count) asks = absurd cc
image_at bytes (Some (app.Dead uuid)) old new steps answer (Some here) machine runs is asks = absurd runs
image_at bytes (Some (app.Native native)) old new steps answer None machine runs ((ended, left, none), count) asks = absurd cc
image_at bytes (Some (app.Native native)) old new steps answer (Some entry.Create) machine runs is asks = absurd runs.0
image_at bytes (Some (app.Native native)) old new steps answer (Some entry.Open) machine runs is asks = absurd runs.0
image_at bytes (Some (app.Native native)) old new steps answer (Some entry.Close) machine runs is asks = absurd runs.0
image_at bytes (Some (app.Native native)) old new steps answer (Some entry.Destroy) machine runs is asks = absurd runs.0
image_at bytes (Some (app.Native native)) old new zero answer (Some (entry.Invoke func)) machine runs (interrupted, same, can, count) asks = absurd cc
image_at bytes (Some (app.Native native)) old new (suc n) answer (Some (entry.Invoke func)) machine runs ((ended, left, none), count) asks = absurd cc

pub advance-image : {M : Type 0} (bytes : M → List ℕ) (whose : Option ContApp) (old new : Cont M) (steps : ℕ) (answer : ContStop)
    → CanRun bytes whose old → IsSomeAnd (grant_of steps (job_for bytes whose old)) (λ grant. IsAdvance bytes whose new old.steps steps grant answer)
    → answer ≡ stop.Asks → HasImage whose
advance-image bytes whose old new steps answer can is asks = image_at bytes whose old new steps answer old.point old.machine can.runs is asks
