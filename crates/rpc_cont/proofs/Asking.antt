-- What becomes of a request: the call waits for the normal world, or its application gets an answer and goes on.
use Rattle.std.proofs.Common.{◌≡◌, ℕ, true, List, Option, Some, None, refl, ap, sym, subst, ◌∙◌}
use Rattle.std.specs.Prelude.{IsSome, IsSomeAnd}
use Rattle.std.specs.Option.{option_map}
use Rattle.base.specs.NumberMap.{NumberMap}
use Rattle.job_model.specs.Owner.{Owner}
use Rattle.job_model.specs.Asking.{PendingRequest, Asking, Needs, Gives, Bad, Ask, bytes_at, comes_to, object_ask, object_asking}
use Rattle.job_model.specs.Job.{Body, Machine, Job}
use Rattle.job_model.specs.Steps.{Advance, on_from, with_bytes, advance_on_answers}
use Rattle.rpc_cont.specs.Conts.{body_at, job_at}
use Rattle.rpc_cont.specs.Running.{HasAskedFor, HasCome, IsReady, IsTurn, Awaits}
use Rattle.rpc_cont.specs.declared.cont.Cont.{Cont}
use Rattle.job_model.specs.declared.entry_point.EntryPoint.{EntryPoint}
use Rattle.rpc_cont.specs.declared.stop.ContStop.TheVariants as stop
use Rattle.rpc_msgs.specs.Answer.{RpcAnswer}
use Rattle.rpc_msgs.specs.declared.rpc.Rpc.{Rpc}
use Rattle.ta_isa.specs.declared.image.Image.{Image}
use Rattle.ta_step.specs.Machine.{state_of}
use Rattle.ta_step.specs.Requests.{span_of}
use Rattle.ta_step.specs.State.{State, is_cancelled}
use Rattle.ta_step.specs.Addresses.{store}
use Rattle.ta_step.specs.SystemCalls.{answered, is_range}
use Rattle.rpc_cont.proofs.Spans.{store-same}
use Rattle.ta_step.specs.declared.machine.Machine.{Machine as AnyMachine}
use Rattle.ta_step.specs.declared.stop.Request.{Request}
use Rattle.ta_step.specs.declared.stop.Request.TheVariants as request
use Rattle.ta_params.specs.declared.object_call.ObjectCall.{ObjectCall}
use Rattle.tee_storage.specs.ObjectCalls.{Serving, serving}
use Rattle.tee_storage.specs.States.{StandsFor}
use Rattle.tee_storage.specs.declared.handle.Handle.{Handle}
use Rattle.tee_storage.specs.declared.state.ObjectState.{ObjectState}
use Rattle.tee_storage.specs.declared.step.StorageStep.{StorageStep}
use Rattle.tee_storage.specs.declared.step.StorageStep.TheVariants as storage
use Rattle.ta_step.specs.Requests.{object_span}
use Rattle.rpc_cont.specs.declared.stop.ContStop.{ContStop}

-- ---- a value that is there

-- what holds of a value that is there follows from what is known of it
pub where_there : {A : Type 0} (o : Option A) (P Q : A → Type 0) → IsSomeAnd o P → ((a : A) → o ≡ Some a → P a → Q a) → IsSomeAnd o Q
where_there None P Q holds on = absurd holds
where_there (Some a) P Q holds on = on a refl holds

pub holds_as : {A : Type 0} (o p : Option A) (P : A → Type 0) → o ≡ p → IsSomeAnd p P → IsSomeAnd o P
holds_as {A} o p P same holds = subst (λ (x : Option A). IsSomeAnd x P) (sym same) holds

pub from_there : {A B : Type 0} (o : Option A) (P : A → Type 0) → IsSomeAnd o P → ((a : A) → o ≡ Some a → P a → B) → B
from_there None P holds on = absurd holds
from_there (Some a) P holds on = on a refl holds

pub holds_there : {A : Type 0} (o : Option A) (P : A → Type 0) (a : A) → o ≡ Some a → IsSomeAnd o P → P a
holds_there {A} o P a is holds = subst (λ (x : Option A). IsSomeAnd x P) is holds

-- what runs of an image whose machine is there
pub body_there : {M : Type 0} (bytes : M → List ℕ) (image : Image) (point : Option EntryPoint) (machine : Option (AnyMachine M))
    (here : EntryPoint) (m : AnyMachine M) → point ≡ Some here → machine ≡ Some m
    → body_at bytes image point machine ≡ Machine image here (state_of bytes m)
body_there {M} bytes image point machine here m at is =
    ap (λ (o : Option EntryPoint). body_at bytes image o machine) at
    ∙ ap (λ (o : Option (AnyMachine M)). body_at bytes image (Some here) o) is

-- ---- it waits for the normal world

-- the call when it asks for this
abbrev pub asking_for : {M : Type 0} → Cont M → Option ObjectState → Rpc → List ℕ → Cont M
asking_for cont object wanted payload = record cont { object = object; request = Some (record { rpc = wanted; payload = payload }) }

pub asks-turn : {M : Type 0} (bytes : M → List ℕ) (owner : Owner) (image : Image) (old : Cont M) (here : EntryPoint) (m : AnyMachine M)
    (asked : PendingRequest) (object : Option ObjectState) (wanted : Rpc) (payload : List ℕ)
    → old.memory ≡ None → old.point ≡ Some here → old.machine ≡ Some m → HasAskedFor old.cancelled asked.request (state_of bytes m)
    → (let span = span_of asked.request in
    let new = asking_for old object wanted payload in
    HasCome owner (bytes_at (state_of bytes m) span.0 span.1) asked new asked.request new.request object)
    → IsTurn bytes owner image (asking_for old object wanted payload)
    (on_from (job_at bytes owner image old) image here (state_of bytes m) asked old.objects (Needs wanted payload)) (Some stop.Asks)
asks-turn {M} bytes owner image old here m asked object wanted payload memory at is asks come =
    let new = asking_for old object wanted payload in
    let body = body_there bytes image old.point old.machine here m at is in (
      refl,
      (
        record {
          memory = memory;
          point = subst (λ (o : Option EntryPoint). IsSome o) (sym at) refl;
          same = ap (λ (b : Body). record (job_at bytes owner image old) { body = b; asked = Some asked }) (sym body);
          asked = subst (λ (o : Option (AnyMachine M)). IsSomeAnd o (λ n. Awaits owner new asked (state_of bytes n))) (sym is) (record { asks = asks; come = come });
        },
        refl,
      ),
    )

-- the job of an object call at a step, whose machine is there
abbrev pub object_turn : {M : Type 0} → (M → List ℕ) → Owner → Image → Cont M → EntryPoint → AnyMachine M → PendingRequest → StorageStep → Advance
object_turn bytes owner image cont here m asked step =
    on_from (job_at bytes owner image cont) image here (state_of bytes m) asked cont.objects (object_asking step)

-- so has an object call come, over the bytes of this machine
abbrev pub Came : {M : Type 0} → (M → List ℕ) → Owner → Cont M → AnyMachine M → ObjectCall → PendingRequest → ObjectState → StorageStep → Type 0
Came bytes owner cont m call asked state step =
    let span = object_span call in
    StandsFor state call owner.uuid owner.key asked.range asked.objects asked.answers
    (record { step = step; range = bytes_at (state_of bytes m) span.0 span.1; objects = cont.objects })

pub object-asks : {M : Type 0} (bytes : M → List ℕ) (owner : Owner) (image : Image) (old new : Cont M) (answer : ContStop)
    (here : EntryPoint) (m : AnyMachine M) (call : ObjectCall) (asked : PendingRequest) (state : ObjectState) (step : StorageStep) (wanted : Rpc) (payload : List ℕ)
    → asked.request ≡ request.Object call → step ≡ storage.Ask wanted payload
    → new ≡ asking_for old (Some state) wanted payload → answer ≡ stop.Asks
    → old.memory ≡ None → old.point ≡ Some here → old.machine ≡ Some m → HasAskedFor old.cancelled (request.Object call) (state_of bytes m)
    → Came bytes owner old m call asked state step
    → IsTurn bytes owner image new (object_turn bytes owner image old here m asked step) (Some answer)
object-asks {M} bytes owner image old new answer here m call asked state step wanted payload names is stays stops memory at there asks came =
    let next = asking_for old (Some state) wanted payload in
    let now = state_of bytes m in
    let come = subst (λ (s : StorageStep). Came bytes owner old m call asked state s) is came in
    let turn =
    asks-turn bytes owner image old here m asked (Some state) wanted payload memory at there
    (subst (λ (r : Request). HasAskedFor old.cancelled r now) (sym names) asks)
    (subst (λ (r : Request). let span = span_of r in HasCome owner (bytes_at now span.0 span.1) asked next r next.request (Some state)) (sym names) come)
    in
    subst (λ (s : StorageStep). IsTurn bytes owner image new (object_turn bytes owner image old here m asked s) (Some answer)) (sym is)
    (subst (λ (a : ContStop). IsTurn bytes owner image new (object_turn bytes owner image old here m asked (storage.Ask wanted payload)) (Some a)) (sym stops)
    (subst (λ (c : Cont M). IsTurn bytes owner image c (object_turn bytes owner image old here m asked (storage.Ask wanted payload)) (Some stop.Asks)) (sym stays) turn))

-- ---- its application gets an answer

-- the call when this is its machine, and it has an answer
abbrev pub answered_with : {M : Type 0} → Cont M → Option (AnyMachine M) → Cont M
answered_with cont machine = record cont { machine = machine; request = None }

pub gives-turn : {M : Type 0} (bytes : M → List ℕ) (owner : Owner) (image : Image) (old : Cont M) (here : EntryPoint) (m : AnyMachine M)
    (asked : PendingRequest) (r0 r1 r2 : ℕ) (machine : Option (AnyMachine M))
    → old.memory ≡ None → old.object ≡ None → old.point ≡ Some here → HasAskedFor old.cancelled asked.request (state_of bytes m)
    → IsSomeAnd machine (λ n. state_of bytes n ≡ answered asked.request r0 r1 r2 (state_of bytes m))
    → IsTurn bytes owner image (answered_with old machine)
    (on_from (job_at bytes owner image old) image here (state_of bytes m) asked old.objects (Gives r0 r1 r2)) None
gives-turn bytes owner image old here m asked r0 r1 r2 None memory object at asks gives = absurd gives
gives-turn {M} bytes owner image old here m asked r0 r1 r2 (Some n) memory object at asks gives =
    let body = ap (Machine image here) (sym gives) ∙ sym (body_there bytes image old.point (Some n) here n at refl) in
    let flag = ap (λ (s : State). s.cancelled) gives ∙ asks.flag in (
      refl,
      ap (λ (b : Body). record (job_at bytes owner image old) { body = b }) body,
      record {
        memory = memory;
        request = refl;
        object = object;
        machine =
            subst (λ (o : Option EntryPoint). IsSomeAnd o (λ here. IsReady old.cancelled (state_of bytes n))) (sym at)
            (ap (λ (s : State). s.asked) gives, flag);
      },
    )

pub object-gives : {M : Type 0} (bytes : M → List ℕ) (owner : Owner) (image : Image) (old new : Cont M)
    (here : EntryPoint) (m : AnyMachine M) (call : ObjectCall) (asked : PendingRequest) (step : StorageStep) (result value : ℕ)
    → asked.request ≡ request.Object call → step ≡ storage.Done result value
    → new ≡ answered_with old new.machine
    → old.memory ≡ None → old.object ≡ None → old.point ≡ Some here → HasAskedFor old.cancelled (request.Object call) (state_of bytes m)
    → IsSomeAnd new.machine (λ n. state_of bytes n ≡ answered (request.Object call) result value 0 (state_of bytes m))
    → IsTurn bytes owner image new (object_turn bytes owner image old here m asked step) None
object-gives {M} bytes owner image old new here m call asked step result value names is stays memory object at asks gives =
    let now = state_of bytes m in
    let turn =
    gives-turn bytes owner image old here m asked result value 0 new.machine memory object at
    (subst (λ (r : Request). HasAskedFor old.cancelled r now) (sym names) asks)
    (subst (λ (r : Request). IsSomeAnd new.machine (λ n. state_of bytes n ≡ answered r result value 0 now)) (sym names) gives)
    in
    subst (λ (s : StorageStep). IsTurn bytes owner image new (object_turn bytes owner image old here m asked s) None) (sym is)
    (subst (λ (c : Cont M). IsTurn bytes owner image c (object_turn bytes owner image old here m asked (storage.Done result value)) None) (sym stays) turn)

-- ---- an object call that is served

pub on_alike : (job : Job) (body : Body) (held : NumberMap Handle) (before : Option PendingRequest) (image : Image) (point : EntryPoint) (machine : State) (asked : PendingRequest)
    (objects : NumberMap Handle) (next : Asking)
    → on_from (record job { body = body; objects = held; asked = before }) image point machine asked objects next ≡ on_from job image point machine asked objects next
on_alike job body held before image point machine asked objects (Needs wanted payload) = refl
on_alike job body held before image point machine asked objects (Gives r0 r1 r2) = refl
on_alike job body held before image point machine asked objects (Bad code) = refl

pub served-object : (job : Job) (image : Image) (point : EntryPoint) (machine : State) (call : ObjectCall) (asked : PendingRequest) (now : Serving)
    → asked.request ≡ request.Object call → serving call job.owner.uuid job.owner.key asked.range asked.objects asked.answers ≡ Some now
    → advance_on_answers job image point machine asked
    ≡ Some (on_from job image point (with_bytes machine (request.Object call) now.range) asked now.objects (object_asking now.step))
served-object job image point machine call asked now names serves =
    let on = λ (r : Request) (came : Ask). on_from job image point (with_bytes machine r came.range) asked came.objects came.next in
    ap (λ (r : Request). option_map (on r) (comes_to job.owner (is_cancelled machine) asked r)) names
    ∙ ap (λ (o : Option Serving). option_map (on (request.Object call)) (option_map object_ask o)) serves

-- a machine whose bytes were stored as they stood
pub unread : (old new : State) (addr count : ℕ) (bytes : List ℕ) → is_range old addr count ≡ true → new ≡ store old addr bytes → bytes ≡ bytes_at old addr count → new ≡ old
unread old new addr count bytes e stored same = stored ∙ ap (store old addr) same ∙ store-same old addr count e

-- the call with its machine and its open objects as an object call left them
abbrev pub moved : {M : Type 0} → Cont M → AnyMachine M → NumberMap Handle → Cont M
moved cont machine objects = record cont { machine = Some machine; objects = objects }

-- an object call has come so far, over the bytes of the machine that it left
pub came-over : (s : State) (call : ObjectCall) (uuid key range left : List ℕ) (objects held : NumberMap Handle) (answers : List RpcAnswer) (state : ObjectState) (step : StorageStep)
    → (let span = object_span call in bytes_at s span.0 span.1 ≡ left)
    → StandsFor state call uuid key range objects answers (record { step = step; range = left; objects = held })
    → (let span = object_span call in StandsFor state call uuid key range objects answers (record { step = step; range = bytes_at s span.0 span.1; objects = held }))
came-over s call uuid key range left objects held answers state step here came =
    subst (λ (r : List ℕ). StandsFor state call uuid key range objects answers (record { step = step; range = r; objects = held })) (sym here) came

-- what it comes to is what its next step does
pub object-served : {M : Type 0} (bytes : M → List ℕ) (owner : Owner) (image : Image) (old : Cont M)
    (here : EntryPoint) (m n : AnyMachine M) (before : Option PendingRequest) (call : ObjectCall) (asked : PendingRequest) (state : ObjectState) (now : Serving) (Q : Advance → Type 0)
    → asked.request ≡ request.Object call
    → state_of bytes n ≡ with_bytes (state_of bytes m) (request.Object call) now.range
    → StandsFor state call owner.uuid owner.key asked.range asked.objects asked.answers now
    → Q (object_turn bytes owner image (moved old n now.objects) here n asked now.step)
    → IsSomeAnd (advance_on_answers (record (job_at bytes owner image old) { asked = before }) image here (state_of bytes m) asked) Q
object-served {M} bytes owner image old here m n before call asked state now Q names stored stands turn =
    let job = record (job_at bytes owner image old) { asked = before } in
    let point = here in
    let left = job_at bytes owner image (moved old n now.objects) in
    let next = object_asking now.step in
    let same =
    on_alike job left.body now.objects None image point (state_of bytes n) asked now.objects next
    ∙ ap (λ (s : State). on_from job image point s asked now.objects next) stored
    in
    subst (λ (o : Option Advance). IsSomeAnd o Q)
    (sym (served-object job image point (state_of bytes m) call asked now names stands.serves))
    (subst Q same turn)
