-- What an answer makes of a call that waits for one.
use Rattle.std.proofs.Common.{◌≡◌, ℕ, Bool, true, List, [], ◌∷◌, ◌++◌, Option, Some, None, refl, ap, sym, subst, ◌∙◌, length}
use Rattle.std.specs.Prelude.{IsSome, IsSomeAnd, if◌then◌else◌}
use Rattle.std.specs.Option.{option_map}
use Rattle.base.specs.NumberMap.{NumberMap}
use Rattle.job_model.specs.Owner.{Owner}
use Rattle.job_model.specs.Asking.{PendingRequest, Asking, Gives, Ask, ask, asks_time, wait_result, ask_unchanged, bytes_at, object_asking}
use Rattle.job_model.specs.Job.{Body, Machine, Job, with_cancel_seen, body_with_cancel_seen}
use Rattle.job_model.specs.Steps.{Advance, Goes, Stops, Ends, Panics, Asks, on_from, with_bytes, advance_on_answer_in, advance_on_answer, advance_on_answers}
use Rattle.job_model.proofs.Ranges.{length-bytes_at}
use Rattle.rpc_cont.specs.declared.phase.Phase.{Phase}
use Rattle.rpc_cont.specs.declared.phase.Phase.TheVariants as phase
use Rattle.rpc_cont.proofs.Asking.{where_there, from_there, holds_there, body_there, gives-turn, answered_with, served-object}
use Rattle.rpc_cont.proofs.Pending.{waits-pending}
use Rattle.rpc_cont.proofs.Spans.{store-none, store-same, store-same_but, is_range-store, bytes_at-store}
use Rattle.rpc_cont.specs.Spans.{rest_of}
use Rattle.rpc_cont.specs.Advancing.{IsRunnable, phase_after}
use Rattle.rpc_cont.specs.Answering.{HasImage, CanBeAnswered, IsAnswered, phase_behind}
use Rattle.rpc_cont.specs.Conts.{body_at, body_of, job_with, job_at, job_of, call_owner}
use Rattle.rpc_cont.specs.Running.{HasAskedFor, HasCome, HasReady, IsReady, IsTurn, IsWaiting, Awaits, worked}
use Rattle.rpc_cont.specs.declared.app.ContApp.{ContApp}
use Rattle.rpc_cont.specs.declared.app.ContApp.TheVariants as app
use Rattle.rpc_cont.specs.declared.cont.Asked.{Asked}
use Rattle.rpc_cont.specs.declared.cont.Cont.{Cont}
use Rattle.job_model.specs.declared.entry_point.EntryPoint.{EntryPoint}
use Rattle.job_model.specs.declared.entry_point.EntryPoint.TheVariants as entry
use Rattle.rpc_cont.specs.declared.stop.ContStop.{ContStop}
use Rattle.rpc_msgs.specs.Answer.{RpcAnswer}
use Rattle.ta_isa.specs.declared.image.Image.{Image}
use Rattle.ta_step.specs.Machine.{state_of}
use Rattle.ta_step.specs.Requests.{span_of, object_span}
use Rattle.ta_step.specs.State.{State, is_cancelled}
use Rattle.ta_step.specs.Addresses.{store}
use Rattle.ta_step.specs.SystemCalls.{answered, is_range}
use Rattle.ta_params.specs.declared.object_call.ObjectCall.{ObjectCall}
use Rattle.ta_step.specs.declared.machine.Machine.{Machine as AnyMachine}
use Rattle.ta_step.specs.declared.stop.Request.{Request}
use Rattle.ta_step.specs.declared.stop.Request.TheVariants as request
use Rattle.tee_storage.specs.ObjectCalls.{Serving, panic_code, serving}
use Rattle.tee_storage.specs.States.{StandsFor}
use Rattle.tee_storage.specs.declared.handle.Handle.{Handle}
use Rattle.tee_storage.specs.declared.state.ObjectState.{ObjectState}
use Rattle.tee_storage.specs.declared.step.StorageStep.{StorageStep}
use Rattle.tee_storage.specs.declared.step.StorageStep.TheVariants as storage

-- ---- the image of a call

-- the call's application is this image
pub record RunsImage {M : Type 0} (bytes : M → List ℕ) (seen : Bool) (application : Option ContApp) (image : Image) : Type 0 where
  pub valid : HasImage application
  pub body : (point : Option EntryPoint) (machine : Option (AnyMachine M)) → body_of bytes application point machine ≡ body_at bytes image point machine
  pub runs : (here : EntryPoint) (m : AnyMachine M) → IsReady seen (state_of bytes m) → IsRunnable bytes seen application (Some here) (Some m)

runs_image : {M : Type 0} (bytes : M → List ℕ) (seen : Bool) (application : Option ContApp) → HasImage application
    → (image : Image) × RunsImage bytes seen application image
runs_image bytes seen None valid = absurd valid
runs_image bytes seen (Some (app.Image uuid image)) valid = (image.value, record { valid = valid; body = λ point machine. refl; runs = λ here m ready. (valid, ready) })
runs_image bytes seen (Some (app.Native native)) valid = absurd valid
runs_image bytes seen (Some (app.Dead uuid)) valid = absurd valid

job_image : {M : Type 0} (bytes : M → List ℕ) (cont : Cont M) (image : Image) → RunsImage bytes cont.cancelled cont.app image
    → job_of bytes cont ≡ job_at bytes (call_owner cont) image cont
job_image bytes cont image runs = ap (λ (b : Body). job_with b (call_owner cont) cont) (runs.body cont.point cont.machine)

-- ---- on from an answer

-- the call runs on, or asks for something else
abbrev GoesOrAsks : Advance → Type 0
GoesOrAsks (Goes job) = Unit {0}
GoesOrAsks (Stops (Ends end)) = ⊥
GoesOrAsks (Stops (Panics code)) = ⊥
GoesOrAsks (Stops (Asks wanted payload left)) = Unit {0}

-- the call with its phase
abbrev pub in_phase : {M : Type 0} → Cont M → Phase → Cont M
in_phase cont phase = record cont { phase = phase }

runnable : {M : Type 0} (bytes : M → List ℕ) (seen : Bool) (application : Option ContApp) (image : Image)
    (point : Option EntryPoint) (machine : Option (AnyMachine M)) → RunsImage bytes seen application image → HasReady bytes seen point machine
    → IsRunnable bytes seen application point machine
runnable bytes seen application image None machine runs ready = absurd ready
runnable bytes seen application image (Some here) None runs ready = absurd ready
runnable bytes seen application image (Some here) (Some m) runs ready = runs.runs here m ready

-- a call waits in any phase
waits-in : {M : Type 0} (bytes : M → List ℕ) (owner : Owner) (cont : Cont M) (next : Phase) (plain other job : Job) → plain ≡ other
    → IsWaiting bytes owner cont plain job → IsWaiting bytes owner (in_phase cont next) other job
waits-in {M} bytes owner cont next plain other job same waits = record {
  memory = waits.memory;
  point = waits.point;
  same = waits.same ∙ ap (λ (j : Job). record j { asked = job.asked }) same;
  asked =
      where_there job.asked _ _ waits.asked
      (λ asked is awaits. where_there cont.machine _ _ awaits (λ m there here. record { asks = here.asks; come = here.come }));
}

pub turn-answered : {M : Type 0} (bytes : M → List ℕ) (cont : Cont M) (image : Image) (answer : Option ContStop) (next : Phase) (turn : Advance)
    → RunsImage bytes cont.cancelled cont.app image → next ≡ phase_behind answer → GoesOrAsks turn
    → IsTurn bytes (call_owner cont) image cont turn answer → IsAnswered bytes (in_phase cont next) turn
turn-answered bytes cont image answer next (Goes job) runs is calm (none, same, running) = (
  same ∙ sym (job_image bytes cont image runs),
  record {
    phase = is ∙ ap phase_behind none;
    runs = record {
      memory = running.memory;
      request = running.request;
      object = running.object;
      runs = runnable bytes cont.cancelled cont.app image cont.point cont.machine runs running.machine;
    };
  },
)
turn-answered bytes cont image answer next (Stops (Ends end)) runs is calm turn = absurd calm
turn-answered bytes cont image answer next (Stops (Panics code)) runs is calm turn = absurd calm
turn-answered bytes cont image None next (Stops (Asks wanted payload left)) runs is calm turn = absurd turn
turn-answered bytes cont image (Some answer) next (Stops (Asks wanted payload left)) runs is calm (asks, (waits, pending)) =
    let waiting =
    waits-in bytes (call_owner cont) cont next (job_at bytes (call_owner cont) image cont) (job_of bytes cont) left (sym (job_image bytes cont image runs)) waits
    in
    ((waiting, pending), is ∙ ap phase_after asks, record { image = runs.valid; pending = waits-pending bytes (call_owner cont) (in_phase cont next) (job_of bytes cont) left _ waiting pending })

-- the same of a call that ran
pub ran-answered : {M : Type 0} (bytes : M → List ℕ) (old new : Cont M) (image : Image) (answer : Option ContStop) (next : Phase) (turn : Advance)
    → new ≡ worked old new → RunsImage bytes old.cancelled old.app image → next ≡ phase_behind answer → GoesOrAsks turn
    → IsTurn bytes (call_owner old) image new turn answer → IsAnswered bytes (in_phase new next) turn
ran-answered {M} bytes old new image answer next turn stays runs is calm comes =
    turn-answered bytes new image answer next turn
    (subst (λ (k : Cont M). RunsImage bytes k.cancelled k.app image) (sym stays) runs) is calm
    (subst (λ (k : Cont M). IsTurn bytes (call_owner k) image new turn answer) (sym stays) comes)

-- ---- what a call waits for

-- what stands behind a call that waits for the answer to this
pub record Waiting {M : Type 0} (bytes : M → List ℕ) (cont : Cont M) (job : Job) (m : AnyMachine M) (wanted : Request) : Type 0 where
  pub image : Image
  pub here : EntryPoint
  pub asked : PendingRequest
  pub runs : RunsImage bytes cont.cancelled cont.app image
  pub at : cont.point ≡ Some here
  pub there : cont.machine ≡ Some m
  pub names : asked.request ≡ wanted
  pub asks : HasAskedFor cont.cancelled wanted (state_of bytes m)
  pub come :
      (let span = span_of wanted in HasCome (call_owner cont) (bytes_at (state_of bytes m) span.0 span.1) asked cont wanted cont.request cont.object)
  pub given : (answer : RpcAnswer)
      → advance_on_answer answer job
      ≡ advance_on_answers (record (job_at bytes (call_owner cont) image cont) { asked = Some asked }) image here (state_of bytes m)
      (record asked { answers = asked.answers ++ answer ∷ [] })

given-served : (job plain : Job) (asked : PendingRequest) (image : Image) (point : EntryPoint) (machine : State) (answer : RpcAnswer)
    → job ≡ record plain { asked = job.asked } → job.asked ≡ Some asked → plain.body ≡ Machine image point machine
    → advance_on_answer answer job ≡ advance_on_answers (record plain { asked = Some asked }) image point machine (record asked { answers = asked.answers ++ answer ∷ [] })
given-served job plain asked image point machine answer same is body =
    ap (advance_on_answer answer) (same ∙ ap (λ (o : Option PendingRequest). record plain { asked = o }) is)
    ∙ ap (λ (b : Body). advance_on_answer_in (record plain { asked = Some asked }) answer b (Some asked)) body

some_is : {A : Type 0} (o : Option A) → IsSome o → (a : A) × (o ≡ Some a)
some_is None some = absurd cc
some_is (Some a) some = (a, refl)

one_wanted : (asked : Option Request) (one other : Request) → asked ≡ Some one → asked ≡ Some other → one ≡ other
one_wanted asked one other is is_other = cc

pub waiting : {M : Type 0} (bytes : M → List ℕ) (cont : Cont M) (job : Job) (m : AnyMachine M) (wanted : Request)
    → CanBeAnswered bytes cont → IsWaiting bytes (call_owner cont) cont (job_of bytes cont) job → cont.machine ≡ Some m → m.asked ≡ Some wanted
    → Waiting bytes cont job m wanted
waiting {M} bytes cont job m wanted can waits there wants =
    let owner = call_owner cont in
    let s = state_of bytes m in
    let image = runs_image bytes cont.cancelled cont.app can.image in
    let point = some_is cont.point can.pending.point in
    from_there job.asked _ waits.asked
    (λ asked is awaits_there.
    let awaits = holds_there cont.machine _ m there awaits_there in
    let names = one_wanted m.asked asked.request wanted awaits.asks.asks wants in
    let job_is = waits.same ∙ ap (λ (j : Job). record j { asked = job.asked }) (job_image bytes cont image.0 image.1) in
    let body = body_there bytes image.0 cont.point cont.machine point.0 m point.1 there in
    record {
      image = image.0;
      here = point.0;
      asked = asked;
      runs = image.1;
      at = point.1;
      there = there;
      names = names;
      asks = subst (λ (r : Request). HasAskedFor cont.cancelled r s) names awaits.asks;
      come = subst (λ (r : Request). let span = span_of r in HasCome owner (bytes_at s span.0 span.1) asked cont r cont.request cont.object) names awaits.come;
      given = λ answer. given-served job (job_at bytes owner image.0 cont) asked image.0 point.0 s answer job_is is body;
    })

-- ---- registers for the application

-- the call when its application has an answer
abbrev pub answered_by : {M : Type 0} → Cont M → Option (AnyMachine M) → Cont M
answered_by cont machine = record cont { machine = machine; object = None; request = None; phase = phase.Runs }

-- where it has no call on an object, or none any more
pub answered_plain : {M : Type 0} (old new : Cont M) → old.object ≡ None
    → new ≡ record old { machine = new.machine; request = None; phase = phase.Runs } → new ≡ answered_by old new.machine
answered_plain old new none stays =
    stays ∙ ap (λ (o : Option ObjectState). record old { machine = new.machine; object = o; request = None; phase = phase.Runs }) none

-- a request with one answer more
abbrev pub one_more : PendingRequest → RpcAnswer → PendingRequest
one_more asked answer = record asked { answers = asked.answers ++ answer ∷ [] }

-- the application gets these registers for an answer
abbrev pub GivesFor : {M : Type 0} (bytes : M → List ℕ) (cont : Cont M) (job : Job) (m : AnyMachine M) (wanted : Request)
    → Waiting bytes cont job m wanted → RpcAnswer → ℕ → ℕ → ℕ → Type 0
GivesFor bytes cont job m wanted w answer r0 r1 r2 =
    let left = record (job_at bytes (call_owner cont) w.image cont) { asked = Some w.asked } in
    let point = w.here in
    let s = state_of bytes m in
    let more = one_more w.asked answer in
    advance_on_answers left w.image point s more ≡ Some (on_from left w.image point s more cont.objects (Gives r0 r1 r2))

pub gives-answered : {M : Type 0} (bytes : M → List ℕ) (old new : Cont M) (job : Job) (m : AnyMachine M) (wanted : Request)
    (w : Waiting bytes old job m wanted) (answer : RpcAnswer) (r0 r1 r2 : ℕ)
    → old.memory ≡ None → new ≡ answered_by old new.machine
    → IsSomeAnd new.machine (λ n. state_of bytes n ≡ answered wanted r0 r1 r2 (state_of bytes m))
    → GivesFor bytes old job m wanted w answer r0 r1 r2
    → IsSomeAnd (advance_on_answer answer job) (λ next. IsAnswered bytes new next)
gives-answered {M} bytes old new job m wanted w answer r0 r1 r2 memory stays gives serves =
    let s = state_of bytes m in
    let plain : Cont M = record old { object = None } in
    let left = job_at bytes (call_owner old) w.image old in
    let next = on_from left w.image w.here s (one_more w.asked answer) old.objects (Gives r0 r1 r2) in
    let turn =
    gives-turn bytes (call_owner old) w.image plain w.here m (one_more w.asked answer) r0 r1 r2 new.machine memory refl w.at
    (subst (λ (r : Request). HasAskedFor old.cancelled r s) (sym w.names) w.asks)
    (subst (λ (r : Request). IsSomeAnd new.machine (λ n. state_of bytes n ≡ answered r r0 r1 r2 s)) (sym w.names) gives)
    in
    let done = turn-answered bytes (answered_with plain new.machine) w.image None phase.Runs next w.runs refl tt turn in
    subst (λ (o : Option Advance). IsSomeAnd o (λ t. IsAnswered bytes new t)) (sym (w.given answer ∙ serves))
    (subst (λ (c : Cont M). IsAnswered bytes c next) (sym stays) done)

-- ---- time and wait

-- a request that names no bytes, as it was made
abbrev made_plain : Request → NumberMap Handle → PendingRequest
made_plain wanted objects = record { request = wanted; range = []; objects = objects; answers = [] }

plain-served : (job : Job) (image : Image) (point : EntryPoint) (machine : State) (more : PendingRequest) (objects : NumberMap Handle) (next : Asking)
    → ask job.owner (is_cancelled machine) more ≡ Some (record { next = next; range = []; objects = objects })
    → advance_on_answers job image point machine more ≡ Some (on_from job image point machine more objects next)
plain-served job image point machine more objects next comes =
    ap (option_map (λ (came : Ask). on_from job image point (with_bytes machine more.request came.range) more came.objects came.next)) comes
    ∙ ap (λ (s : State). Some (on_from job image point s more objects next)) (store-none machine (span_of more.request).0)

plain-answered : (job : Job) (image : Image) (point : EntryPoint) (machine : State) (asked : PendingRequest) (wanted : Request) (objects : NumberMap Handle) (answer : RpcAnswer) (next : Asking)
    → asked ≡ made_plain wanted objects
    → ask job.owner (is_cancelled machine) (one_more (made_plain wanted objects) answer) ≡ Some (record { next = next; range = []; objects = objects })
    → advance_on_answers job image point machine (one_more asked answer) ≡ Some (on_from job image point machine (one_more asked answer) objects next)
plain-answered job image point machine asked wanted objects answer next is comes =
    subst (λ (a : PendingRequest). advance_on_answers job image point machine (one_more a answer) ≡ Some (on_from job image point machine (one_more a answer) objects next)) (sym is)
    (plain-served job image point machine (one_more (made_plain wanted objects) answer) objects next comes)

come-time : {M : Type 0} (owner : Owner) (range : List ℕ) (asked : PendingRequest) (cont : Cont M) (pending : Option Asked) (object : Option ObjectState)
    → HasCome owner range asked cont request.Time pending object → asked ≡ made_plain request.Time cont.objects
come-time owner range asked cont None object come = absurd come
come-time owner range asked cont (Some pending) None come = come.0
come-time owner range asked cont (Some pending) (Some state) come = absurd come

come-wait : {M : Type 0} (owner : Owner) (range : List ℕ) (asked : PendingRequest) (cont : Cont M) (ms : ℕ) (pending : Option Asked) (object : Option ObjectState)
    → HasCome owner range asked cont (request.Suspend ms) pending object → asked ≡ made_plain (request.Suspend ms) cont.objects
come-wait owner range asked cont ms None object come = absurd come
come-wait owner range asked cont ms (Some pending) None come = come.0
come-wait owner range asked cont ms (Some pending) (Some state) come = absurd come

pub time-gives : {M : Type 0} (bytes : M → List ℕ) (cont : Cont M) (job : Job) (m : AnyMachine M)
    (w : Waiting bytes cont job m request.Time) (answer : RpcAnswer) (r0 r1 r2 : ℕ)
    → asks_time (answer ∷ []) ≡ Some (Gives r0 r1 r2) → GivesFor bytes cont job m request.Time w answer r0 r1 r2
time-gives {M} bytes cont job m w answer r0 r1 r2 comes =
    let owner = call_owner cont in
    let s = state_of bytes m in
    let left = record (job_at bytes owner w.image cont) { asked = Some w.asked } in
    let more = one_more (made_plain request.Time cont.objects) answer in
    plain-answered left w.image w.here s w.asked request.Time cont.objects answer (Gives r0 r1 r2)
    (come-time owner (bytes_at s 0 0) w.asked cont cont.request cont.object w.come) (ap (option_map (ask_unchanged more)) comes)

pub wait-gives : {M : Type 0} (bytes : M → List ℕ) (cont : Cont M) (job : Job) (m : AnyMachine M) (ms : ℕ)
    (w : Waiting bytes cont job m (request.Suspend ms)) (answer : RpcAnswer) (r0 : ℕ)
    → r0 ≡ (if is_cancelled (state_of bytes m) then 0xffff0002 else wait_result answer) → GivesFor bytes cont job m (request.Suspend ms) w answer r0 0 0
wait-gives {M} bytes cont job m ms w answer r0 is =
    let owner = call_owner cont in
    let s = state_of bytes m in
    let left = record (job_at bytes owner w.image cont) { asked = Some w.asked } in
    let more = one_more (made_plain (request.Suspend ms) cont.objects) answer in
    plain-answered left w.image w.here s w.asked (request.Suspend ms) cont.objects answer (Gives r0 0 0)
    (come-wait owner (bytes_at s 0 0) w.asked cont ms cont.request cont.object w.come) (ap (λ (r : ℕ). Some (ask_unchanged more (Gives r 0 0))) (sym is))

-- ---- calls on objects

pub come-object : {M : Type 0} (owner : Owner) (range : List ℕ) (asked : PendingRequest) (cont : Cont M) (call : ObjectCall) (pending : Option Asked) (object : Option ObjectState)
    (state : ObjectState) → object ≡ Some state → HasCome owner range asked cont (request.Object call) pending object
    → (p : Asked) × StandsFor state call owner.uuid owner.key asked.range asked.objects asked.answers (record { step = storage.Ask p.rpc p.payload; range = range; objects = cont.objects })
come-object owner range asked cont call None object state is come = absurd come
come-object owner range asked cont call (Some pending) None state is come = absurd come
come-object owner range asked cont call (Some pending) (Some other) state is come =
    let same : other ≡ state = cc in
    let now : Serving = record { step = storage.Ask pending.rpc pending.payload; range = range; objects = cont.objects } in
    (pending, subst (λ (o : ObjectState). StandsFor o call owner.uuid owner.key asked.range asked.objects asked.answers now) same come)

pub object-fails : {M : Type 0} (bytes : M → List ℕ) (cont : Cont M) (job : Job) (m : AnyMachine M) (call : ObjectCall)
    (w : Waiting bytes cont job m (request.Object call)) (answer : RpcAnswer) (code : ℕ)
    → (let span = object_span call in
    serving call (call_owner cont).uuid (call_owner cont).key w.asked.range w.asked.objects (w.asked.answers ++ answer ∷ [])
    ≡ Some (record { step = storage.Done code 0; range = bytes_at (state_of bytes m) span.0 span.1; objects = cont.objects }))
    → GivesFor bytes cont job m (request.Object call) w answer code 0 0
object-fails {M} bytes cont job m call w answer code serves =
    let owner = call_owner cont in
    let s = state_of bytes m in
    let span = object_span call in
    let left = record (job_at bytes owner w.image cont) { asked = Some w.asked } in
    let point = w.here in
    let more = one_more w.asked answer in
    let now : Serving = record { step = storage.Done code 0; range = bytes_at s span.0 span.1; objects = cont.objects } in
    served-object left w.image point s call more now w.names serves
    ∙ ap (λ (t : State). Some (on_from left w.image point t more cont.objects (Gives code 0 0))) (store-same s span.0 span.1 w.asks.in_range)

pub goes_or_asks : (job : Job) (image : Image) (point : EntryPoint) (machine : State) (asked : PendingRequest) (objects : NumberMap Handle) (step : StorageStep)
    → panic_code step ≡ None → GoesOrAsks (on_from job image point machine asked objects (object_asking step))
goes_or_asks job image point machine asked objects (storage.Ask rpc payload) calm = tt
goes_or_asks job image point machine asked objects (storage.Done result value) calm = tt
goes_or_asks job image point machine asked objects (storage.Panic code) calm = absurd cc

-- the machine that was left still waits
pub stored-asks : (seen_so : Bool) (call : ObjectCall) (old new : State) (left : List ℕ) → (let span = object_span call in new ≡ store old span.0 left)
    → HasAskedFor seen_so (request.Object call) old → HasAskedFor seen_so (request.Object call) new
stored-asks seen_so call old new left stored asks =
    let span = object_span call in
    let kept = store-same_but old span.0 left in
    subst (λ (s : State). HasAskedFor seen_so (request.Object call) s) (sym stored)
    (record { asks = kept.asked ∙ asks.asks; flag = kept.cancelled ∙ asks.flag; in_range = is_range-store old span.0 left span.1 ∙ asks.in_range })

-- the bytes of a span that was written stand in the machine that was left
pub stored-there : (old new span : State) (a l addr count : ℕ) → is_range span a l ≡ true → is_range old addr count ≡ true → rest_of span a l ≡ rest_of old addr count
    → new ≡ store old addr (bytes_at span a l) → bytes_at new addr count ≡ bytes_at span a l
stored-there old new span a l addr count inside is alike stored =
    let left = bytes_at span a l in
    let long : length left ≡ count = length-bytes_at span a l inside ∙ ap (λ (r : ℕ × ℕ × State). r.1) alike in
    ap (λ (s : State). bytes_at s addr count) stored
    ∙ ap (bytes_at (store old addr left) addr) (sym long)
    ∙ bytes_at-store old addr left (ap (is_range old addr) long ∙ is)

-- ---- a cancellation that is seen

seen_body : {M : Type 0} (bytes : M → List ℕ) (application : Option ContApp) (point : Option EntryPoint) (m n : AnyMachine M)
    → state_of bytes n ≡ record (state_of bytes m) { cancelled = true }
    → body_with_cancel_seen (body_of bytes application point (Some m)) ≡ body_of bytes application point (Some n)
seen_body bytes None point m n told = refl
seen_body bytes (Some (app.Dead uuid)) point m n told = refl
seen_body bytes (Some (app.Image uuid image)) None m n told = refl
seen_body bytes (Some (app.Image uuid image)) (Some here) m n told = ap (Machine image.value here) (sym told)
seen_body bytes (Some (app.Native native)) None m n told = refl
seen_body bytes (Some (app.Native native)) (Some entry.Create) m n told = refl
seen_body bytes (Some (app.Native native)) (Some entry.Open) m n told = refl
seen_body bytes (Some (app.Native native)) (Some (entry.Invoke func)) m n told = refl
seen_body bytes (Some (app.Native native)) (Some entry.Close) m n told = refl
seen_body bytes (Some (app.Native native)) (Some entry.Destroy) m n told = refl

pub seen-waiting : {M : Type 0} (bytes : M → List ℕ) (owner : Owner) (old mid : Cont M) (m n : AnyMachine M) (job : Job)
    → old.machine ≡ Some m → state_of bytes n ≡ record (state_of bytes m) { cancelled = true } → mid ≡ record old { machine = Some n }
    → IsWaiting bytes owner old (job_of bytes old) job
    → (let new = record mid { cancelled = true } in IsWaiting bytes owner new (job_of bytes new) (with_cancel_seen job))
seen-waiting {M} bytes owner old mid m n job there told is waits =
    let s : State = record (state_of bytes m) { cancelled = true } in
    let now : Cont M = record old { machine = Some n } in
    let new : Cont M = record now { cancelled = true } in
    let body =
    ap (λ (o : Option (AnyMachine M)). body_with_cancel_seen (body_of bytes old.app old.point o)) there ∙ seen_body bytes old.app old.point m n told
    in
    subst (λ (c : Cont M). let seen_now = record c { cancelled = true } in IsWaiting bytes owner seen_now (job_of bytes seen_now) (with_cancel_seen job)) (sym is)
    (record {
      memory = waits.memory;
      point = waits.point;
      same = ap with_cancel_seen waits.same ∙ ap (λ (b : Body). record (job_of bytes old) { body = b; asked = job.asked }) body;
      asked =
          where_there job.asked _ _ waits.asked
          (λ asked is awaits_there.
          let awaits = holds_there old.machine _ m there awaits_there in
          subst (λ (t : State). Awaits owner new asked t) (sym told)
          (record { asks = record { asks = awaits.asks.asks; flag = refl; in_range = awaits.asks.in_range }; come = awaits.come }));
    })

-- a call that waits has a machine
pub waits-there : {M : Type 0} (bytes : M → List ℕ) (owner : Owner) (cont : Cont M) (plain job : Job)
    → cont.machine ≡ None → IsWaiting bytes owner cont plain job → ⊥
waits-there bytes owner cont plain job none waits =
    from_there job.asked _ waits.asked (λ asked is awaits. from_there cont.machine _ awaits (λ m there here. absurd cc))
