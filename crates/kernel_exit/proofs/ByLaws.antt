-- What holds of each kernel that a legal history comes to, for a call that goes out.
use Rattle.std.proofs.Common.{◌≡◌, ℕ, ◌*◌, Bool, true, false, List, length, Option, Some, None, refl, sym, ◌∙◌, ap, subst}
use Rattle.std.specs.Prelude.{IsSome, IsSomeAnd, slice_get, slice_set, is_some, if◌then◌else◌}
use Rattle.std.specs.List.{AllByRecursion}
use Rattle.std.specs.Option.{option_and_then, option_map, option_map_or}
use Rattle.base.specs.NumberMap.{get}
use Rattle.event_journal.specs.declared.event.Event.{Event}
use Rattle.job_model.specs.Job.{Job}
use Rattle.job_model.specs.Steps.{Grant, Left, Stopped, grant_of}
use Rattle.job_model.specs.Steps as job
use Rattle.job_model.specs.declared.call_kind.CallKind.{CallKind}
use Rattle.job_model.specs.declared.call_kind.CallKind.TheVariants as kind
use Rattle.job_model.specs.declared.entry_point.EntryPoint.{EntryPoint}
use Rattle.job_model.specs.declared.entry_point.EntryPoint.TheVariants as entry
use Rattle.kernel_model.specs.Application.{Booted, IsBooted}
use Rattle.kernel_model.specs.Exit.{exit, exit_of, goes_out_from, progress_held, progress_in, progress_of, slot_left}
use Rattle.kernel_model.specs.History.{kernel_after}
use Rattle.kernel_model.specs.Kernel.{CallPhase, Runs, Asks, Waits, Ends, Instance, Kernel, PendingCall, Processor, Progress, Tables, ThreadSlot, Active, Inside, InSlot, Suspended, Visit}
use Rattle.kernel_model.specs.Leaving as model
use Rattle.kernel_model.specs.Sound.{unmarked_at, unmarked_in, unmarked}
use Rattle.kernel_model.specs.Instances.{pages_of}
use Rattle.kernel_model.specs.SoundCalls.{Fits, HasSession, Holds, is_in_session, is_told, job_in}
use Rattle.kernel_model.specs.SoundMemory.{memory_in, memory_of}
use Rattle.kernel_model.proofs.Parts.{set_found}
use Rattle.kernel_model.proofs.SoundCallsJoined.{kernels_joined}
use Rattle.kernel_model.proofs.SoundExits.{exits_all}
use Rattle.kernel_model.proofs.SoundMemory.{kernels_in_memory}
use Rattle.kernel_model.proofs.SoundOrder.{kernels_in_order}
use Rattle.kernel_model.proofs.SoundRunning.{exits_come}
use Rattle.kernel_state.specs.Calls.{IsCall, IsInPhase, bytes_of}
use Rattle.kernel_state.specs.Work.{HasRun}
use Rattle.ns_ram.specs.Lane.{IsInRam}
use Rattle.param_copy.specs.Places.{IsWritable}
use Rattle.rpc_cont.specs.Advancing.{IsAdvance, IsRunnable, phase_after}
use Rattle.rpc_cont.specs.Conts.{body_of, job_of, kept_memory}
use Rattle.rpc_cont.specs.Conts as conts
use Rattle.rpc_cont.specs.declared.app.ContApp.{ContApp}
use Rattle.rpc_cont.specs.declared.app.ContApp.TheVariants as app
use Rattle.rpc_cont.specs.declared.cont.Cont.{Cont}
use Rattle.rpc_cont.specs.declared.phase.Phase.TheVariants as phase
use Rattle.rpc_cont.specs.declared.stop.ContStop.{ContStop}
use Rattle.rpc_msgs.proofs.Places.{placed_whole}
use Rattle.rpc_msgs.specs.Place.{HasPlaces, arg_at, buffer_at}
use Rattle.rpc_msgs.specs.Request.{IsPayloadOf, IsRequest}
use Rattle.rpc_msgs.specs.declared.request_place.RequestPlace.{RequestPlace}
use Rattle.rpc_msgs.specs.declared.rpc.Rpc.{Rpc}
use Rattle.rpc_msgs.specs.declared.rpc.Rpc.TheVariants as rpc
use Rattle.rpc_msgs.specs.declared.rpc_buffer.RpcBuffer.{RpcBuffer}
use Rattle.session_table.specs.declared.session.Session.{Session}
use Rattle.ta_params.specs.declared.call_result.CallResult.{CallResult}
use Rattle.ta_params.specs.declared.copied_params.CopiedParams.{CopiedParams}
use Rattle.ta_step.specs.declared.machine.Machine.{Machine as AnyMachine}
use Rattle.kernel_exit.specs.Ending.{CanBeGivenBack, CanEnd, HasItsSession, IsAtRest, IsHeldWith, pages_held}
use Rattle.kernel_exit.specs.GoingOut.{CanCome, CanTell, HasRunOut, IsCarriedOut}
use Rattle.kernel_exit.proofs.ComesTo.{kept_by_run}

-- ---- what a call comes to keeps this

pub record Stays (before after : PendingCall) : Type 0 where
  pub arg : after.arg ≡ before.arg
  pub area : after.area ≡ before.area
  pub places : after.places ≡ before.places
  pub session : after.session ≡ before.session
  pub cancel_id : after.cancel_id ≡ before.cancel_id
  pub marked : after.marked ≡ before.marked
  pub buffer : after.buffer ≡ before.buffer

as_it_is : (call : PendingCall) → Stays call call
as_it_is call = record { arg = refl; area = refl; places = refl; session = refl; cancel_id = refl; marked = refl; buffer = refl }

pub stays_so : (tables : Tables) (call : PendingCall) (steps : ℕ) (progress : Progress) →
    progress_of tables call steps ≡ Some progress → Stays call progress.call
stays_so tables call steps progress e = exits_all tables call steps (λ (p : Progress). Stays call p.call) progress (record {
  left = λ job later is so. record { arg = refl; area = refl; places = refl; session = refl; cancel_id = refl; marked = refl; buffer = refl };
  ends = λ job used end is so. record { arg = refl; area = refl; places = refl; session = refl; cancel_id = refl; marked = refl; buffer = refl };
  panics = λ job used code is so. record { arg = refl; area = refl; places = refl; session = refl; cancel_id = refl; marked = refl; buffer = refl };
  asks = λ job later used wanted payload is so. record { arg = refl; area = refl; places = refl; session = refl; cancel_id = refl; marked = refl; buffer = refl };
  asked = λ job wanted payload is. as_it_is call;
  waits = λ params is. as_it_is call;
  told = λ result params wakes is. as_it_is call;
  tells = λ result params wakes is. record { arg = refl; area = refl; places = refl; session = refl; cancel_id = refl; marked = refl; buffer = refl };
}) e

-- ---- what it goes out with can be told

asks_can : (call : PendingCall) (at : Option RequestPlace) (request : model.Request) →
    ((place : RequestPlace) → at ≡ Some place → HasPlaces (arg_at place) (buffer_at place) request.wanted) → IsRequest request.wanted →
    IsPayloadOf request.wanted request.payload →
    CanTell call (option_map_or (λ place. model.Requests place request) at model.WantsBuffer)
asks_can call None request lies fits with = tt
asks_can call (Some place) request lies fits with = (lies place refl, fits, with)

ends_can : (call : PendingCall) (buffer : Option RpcBuffer) (result : CallResult) (params : CopiedParams) → IsInRam call.arg 32 → AllByRecursion (IsWritable call.arg) call.places →
    CanTell call (option_map_or model.FreesBuffer buffer (model.Finishes result params))
ends_can call None result params argument places = (argument, places)
ends_can call (Some buffer) result params argument places = tt

pub can_tell : (slot : ℕ) (call : PendingCall) → IsInRam call.arg 32 → AllByRecursion (IsWritable call.arg) call.places →
    ((area : ℕ) → call.area ≡ Some area → IsInRam area 160) → ((buffer : RpcBuffer) → call.buffer ≡ Some buffer → IsInRam buffer.addr 4096) →
    ((its : Job) (wanted : Rpc) (payload : List ℕ) → call.phase ≡ Asks its wanted payload → IsRequest wanted × IsPayloadOf wanted payload) →
    CanTell call (model.leaving_of slot call)
can_tell slot call argument places areas buffers fits = by call.phase refl
  where
    asks : (request : model.Request) → IsRequest request.wanted → IsPayloadOf request.wanted request.payload → CanTell call (model.asks_for call request)
    asks request is with = asks_can call (model.place_of call request) request
        (λ place there. placed_whole call.area call.buffer request.wanted place there areas buffers) is with

    by : (at : CallPhase) → call.phase ≡ at → CanTell call (model.leaving_in slot call at)
    by (Runs its) is = tt
    by (Asks its wanted payload) is = let so = fits its wanted payload is in asks (record { wanted = wanted; payload = payload }) so.0 so.1
    by (Waits params) is = asks (model.plain_request (rpc.Sleep slot)) tt refl
    by (Ends result params told (Some woken)) is = asks (model.plain_request (rpc.Wake woken)) tt refl
    by (Ends result params told None) is = ends_can call call.buffer result params argument places

-- ---- the exit

-- the exit of a processor that works on the call of a slot
pub record ExitsFrom (kernel : Kernel) (cpu slot steps : ℕ) (regs : List ℕ) (call : PendingCall) : Type 0 where
  pub progress : Progress
  pub comes : progress_in kernel.tables call steps call.phase ≡ Some progress
  pub exits : exit kernel cpu ≡ Some (goes_out_from kernel (record { cpu = cpu; regs = regs; steps = steps }) slot progress)

exit_is : (kernel : Kernel) (cpu slot steps : ℕ) (regs : List ℕ) (call : PendingCall) →
    slice_get kernel.processors cpu ≡ Some (Inside regs steps (InSlot slot)) → slice_get kernel.slots slot ≡ Some (Active cpu call) →
    exit kernel cpu ≡ option_map (goes_out_from kernel (record { cpu = cpu; regs = regs; steps = steps }) slot) (progress_in kernel.tables call steps call.phase)
exit_is kernel cpu slot steps regs call inside active =
    let visit : Visit = record { cpu = cpu; regs = regs; steps = steps } in
    ap (λ (p : Option Processor). option_and_then (exit_of kernel cpu) p) inside
    ∙ ap (λ (held : Option ThreadSlot). option_map (goes_out_from kernel visit slot) (option_and_then (progress_held kernel.tables steps) held)) active

pub exits_from : (boot : Booted) (history : List Event) (kernel : Kernel) (cpu slot steps : ℕ) (regs : List ℕ) (call : PendingCall) →
    IsBooted boot → kernel_after boot history ≡ Some kernel →
    slice_get kernel.processors cpu ≡ Some (Inside regs steps (InSlot slot)) → slice_get kernel.slots slot ≡ Some (Active cpu call) →
    ExitsFrom kernel cpu slot steps regs call
exits_from boot history kernel cpu slot steps regs call booted comes inside active =
    let is = exit_is kernel cpu slot steps regs call inside active in
    by (progress_in kernel.tables call steps call.phase) refl (subst IsSome is (exits_come boot history kernel booted comes cpu steps regs (InSlot slot) inside))
  where
    by : (found : Option Progress) → progress_in kernel.tables call steps call.phase ≡ found →
        IsSome (option_map (goes_out_from kernel (record { cpu = cpu; regs = regs; steps = steps }) slot) found) → ExitsFrom kernel cpu slot steps regs call
    by None e some = absurd cc
    by (Some progress) e some = record {
      progress = progress;
      comes = e;
      exits = exit_is kernel cpu slot steps regs call inside active
          ∙ ap (option_map (goes_out_from kernel (record { cpu = cpu; regs = regs; steps = steps }) slot)) e;
    }

-- a call that asks stays in its slot
asks_left : (call : PendingCall) (at : Option RequestPlace) (request : model.Request) →
    slot_left call (option_map_or (λ place. model.Requests place request) at model.WantsBuffer) ≡ Suspended call.client call
asks_left call None request = refl
asks_left call (Some place) request = refl

pub asks_stays : (slot : ℕ) (call : PendingCall) (its : Job) (wanted : Rpc) (payload : List ℕ) → call.phase ≡ Asks its wanted payload →
    slot_left call (model.leaving_of slot call) ≡ Suspended call.client call
asks_stays slot call its wanted payload is =
    let request : model.Request = record { wanted = wanted; payload = payload } in
    ap (λ (at : CallPhase). slot_left call (model.leaving_in slot call at)) is ∙ asks_left call (model.place_of call request) request

pub asks_there : (slots : List ThreadSlot) (slot : ℕ) (held : ThreadSlot) (call : PendingCall) (its : Job) (wanted : Rpc) (payload : List ℕ) →
    slice_get slots slot ≡ Some held → call.phase ≡ Asks its wanted payload →
    unmarked_at (slice_set slots slot (slot_left call (model.leaving_of slot call))) slot ≡ Some (unmarked call)
asks_there slots slot held call its wanted payload there is =
    ap (option_and_then unmarked_in) (set_found slots slot (slot_left call (model.leaving_of slot call)) held there)
    ∙ ap unmarked_in (asks_stays slot call its wanted payload is)

-- ---- what it comes to finds its session and its instance

its_session : (tables : Tables) (slot : ℕ) (call : PendingCall) (its : Job) → Fits tables slot call → call.phase ≡ Runs its →
    (of : CallKind) → call.kind ≡ of → HasItsSession of tables.sessions call.session
its_session tables slot call its fits is kind.Open of =
    let has : HasSession (get tables.sessions call.session) call false = fits.session.opening of (ap is_told is) in
    subst (λ (found : Option Session). IsSomeAnd found (λ (session : Session). session.opened ≡ false)) (sym has.kept) has.is_opened
its_session tables slot call its fits is (kind.Invoke func) of = tt
its_session tables slot call its fits is kind.Close of =
    let has : HasSession (get tables.sessions call.session) call true = fits.session.working its (ap job_in is) (ap is_in_session of) in
    ap is_some has.kept
its_session tables slot call its fits is kind.Settled of = tt

-- its job has all memory that the call has
whole : (seen : Bool) (of : Option ContApp) (point : Option EntryPoint) (machine : Option (AnyMachine (List ℕ))) (memory : Option (List ℕ)) →
    memory ≡ None → IsRunnable bytes_of seen of point machine →
    length (conts.memory_of bytes_of machine memory) ≡ memory_in (body_of bytes_of of point machine)
whole seen of point machine (Some pages) none runs = absurd cc
whole seen None None (Some machine) None none runs = absurd cc
whole seen None None None None none runs = refl
whole seen None (Some point) machine None none runs = absurd runs
whole seen (Some (app.Image uuid image)) None (Some machine) None none runs = absurd cc
whole seen (Some (app.Image uuid image)) None None None none runs = refl
whole seen (Some (app.Image uuid image)) (Some point) None None none runs = absurd runs.1
whole seen (Some (app.Image uuid image)) (Some point) (Some machine) None none runs = refl
whole seen (Some (app.Native native)) None (Some machine) None none runs = absurd cc
whole seen (Some (app.Native native)) None None None none runs = refl
whole seen (Some (app.Native native)) (Some point) (Some machine) None none runs = let no = runs.1 in absurd cc
whole seen (Some (app.Native native)) (Some entry.Create) None None none runs = refl
whole seen (Some (app.Native native)) (Some entry.Open) None None none runs = refl
whole seen (Some (app.Native native)) (Some (entry.Invoke func)) None None none runs = refl
whole seen (Some (app.Native native)) (Some entry.Close) None None none runs = refl
whole seen (Some (app.Native native)) (Some entry.Destroy) None None none runs = refl
whole seen (Some (app.Dead uuid)) None (Some machine) None none runs = absurd cc
whole seen (Some (app.Dead uuid)) None None None none runs = refl
whole seen (Some (app.Dead uuid)) (Some point) machine None none runs = absurd runs

-- one that has stopped for good has no machine
over : (ran : Cont (List ℕ)) (before steps : ℕ) (grant : Grant) (why : ContStop) → IsAdvance bytes_of ran.app ran before steps grant why →
    phase_after why ≡ phase.Ends → ran.machine ≡ None
over ran before steps (Left left) why so is = let other = so.0 in absurd cc
over ran before steps (Stopped used (job.Ends end)) why so is = so.0.2.machine
over ran before steps (Stopped used (job.Panics code)) why so is = so.0.2.machine
over ran before steps (Stopped used (job.Asks wanted payload left)) why so is = let other = so.0.0 in absurd cc

over_run : (found : Option Grant) (ran : Cont (List ℕ)) (before steps : ℕ) (why : ContStop) →
    IsSomeAnd found (λ grant. IsAdvance bytes_of ran.app ran before steps grant why) → phase_after why ≡ phase.Ends → ran.machine ≡ None
over_run None ran before steps why so is = absurd so
over_run (Some grant) ran before steps why so is = over ran before steps grant why so is

kept_whole : (before ran : Cont (List ℕ)) (call : PendingCall) (its : Job) (steps : ℕ) (why : ContStop) → IsCall before call → call.phase ≡ Runs its →
    HasRun steps before ran why → phase_after why ≡ phase.Ends → length (kept_memory bytes_of ran.memory) ≡ memory_in its.body
kept_whole before ran call its steps why is runs run ends =
    let at : IsInPhase before (Runs its) = subst (λ (p : CallPhase). IsInPhase before p) runs is.phase in
    let none : ran.machine ≡ None = over_run (grant_of steps (job_of bytes_of before)) ran before.steps steps why run.advances ends in
    ap (λ (m : Option (AnyMachine (List ℕ))). length (conts.memory_of bytes_of m ran.memory)) (sym none)
    ∙ run.size ∙ whole before.cancelled before.app before.point before.machine before.memory at.1.runs.memory at.1.runs.runs
    ∙ ap (λ (j : Job). memory_in j.body) (sym at.0)

held_bytes : (boot : Booted) (instance : Instance) (bytes : ℕ) → bytes ≡ memory_of boot instance → bytes ≡ 4096 * pages_held boot instance
held_bytes boot instance bytes is = is ∙ by instance.dead
  where
    by : (dead : Bool) → (if dead then 0 else 4096 * pages_of boot instance.uuid) ≡ 4096 * (if dead then 0 else pages_of boot instance.uuid)
    by true = refl
    by false = refl

pub can_end : (boot : Booted) (history : List Event) (kernel : Kernel) (cpu slot : ℕ) (call : PendingCall) (cont : Cont (List ℕ)) (why : ContStop) (steps : ℕ) →
    IsBooted boot → kernel_after boot history ≡ Some kernel → slice_get kernel.slots slot ≡ Some (Active cpu call) →
    HasRunOut cont why call steps → phase_after why ≡ phase.Ends → CanEnd boot kernel.tables cont
can_end boot history kernel cpu slot call cont why steps booted comes active out ends =
    let there : unmarked_at kernel.slots slot ≡ Some (unmarked call) = ap (option_and_then unmarked_in) active in
    let keeps = kept_by_run steps out.before cont why out.ran in
    let fits : Fits kernel.tables slot (unmarked call) = (kernels_joined boot history kernel booted comes).each slot (unmarked call) there in
    let holds : Holds (get kernel.tables.instances call.instance) slot (unmarked call) = fits.instance.working out.job (ap job_in out.runs) in
    let in_memory = kernels_in_memory boot history kernel booted comes in
    let bytes : length (kept_memory bytes_of cont.memory) ≡ 4096 * pages_held boot holds.instance =
    held_bytes boot holds.instance (length (kept_memory bytes_of cont.memory))
    (kept_whole out.before cont call out.job steps why out.is out.runs out.ran ends
    ∙ in_memory.jobs slot (unmarked call) out.job holds.instance there (ap job_in out.runs) holds.kept) in
    record {
      session = subst (λ (n : ℕ). HasItsSession cont.kind kernel.tables.sessions n) (sym (keeps.session ∙ out.is.session))
          (subst (λ (k : CallKind). HasItsSession k kernel.tables.sessions call.session) (sym (keeps.kind ∙ out.is.kind))
          (its_session kernel.tables slot (unmarked call) out.job fits out.runs call.kind refl));
      instance = subst (λ (n : ℕ). CanBeGivenBack boot kernel.tables.instances n (length (kept_memory bytes_of cont.memory))) (sym (keeps.instance ∙ out.is.instance))
          (record {
            rising = (kernels_in_order boot history kernel booted comes).instances;
            frames = in_memory.frames;
            held = subst (λ (found : Option Instance). IsSomeAnd found (IsHeldWith boot (length (kept_memory bytes_of cont.memory)))) (sym holds.kept)
                (ap is_some holds.holder, bytes);
          });
    }

-- one that rests, and has ended before its result is told
unrun_session : (tables : Tables) (slot : ℕ) (call : PendingCall) (cont : Cont (List ℕ)) → Fits tables slot call → IsCall cont call → (at : CallPhase) →
    call.phase ≡ at → IsInPhase cont at → IsAtRest at → cont.phase ≡ phase.Ends → cont.done ≡ false → cont.kind ≡ kind.Open →
    IsSome (get tables.sessions cont.session)
unrun_session tables slot call cont fits is (Runs its) same at rest ends undone opens = absurd rest
unrun_session tables slot call cont fits is (Asks its wanted payload) same at rest ends undone opens = let other = at.0 in absurd cc
unrun_session tables slot call cont fits is (Waits params) same at rest ends undone opens = let other = at.phase in absurd cc
unrun_session tables slot call cont fits is (Ends result params told wakes) same at rest ends undone opens =
    let has : HasSession (get tables.sessions call.session) call false =
    fits.session.opening (sym is.kind ∙ opens) (ap is_told same ∙ sym at.told ∙ undone) in
    ap (λ (n : ℕ). is_some (get tables.sessions n)) is.session ∙ ap is_some has.kept

pub can_come : (boot : Booted) (history : List Event) (kernel : Kernel) (cpu slot : ℕ) (call : PendingCall) (cont : Cont (List ℕ)) (why : Option ContStop) (steps : ℕ) →
    IsBooted boot → kernel_after boot history ≡ Some kernel → slice_get kernel.slots slot ≡ Some (Active cpu call) →
    IsCarriedOut cont why call steps → CanCome boot kernel.tables cont why
can_come boot history kernel cpu slot call cont (Some why) steps booted comes active out =
    λ ends. can_end boot history kernel cpu slot call cont why steps booted comes active out ends
can_come boot history kernel cpu slot call cont None steps booted comes active out = λ ends undone opens.
    unrun_session kernel.tables slot (unmarked call) cont
    ((kernels_joined boot history kernel booted comes).each slot (unmarked call) (ap (option_and_then unmarked_in) active))
    (record {
      client = out.0.client;
      kind = out.0.kind;
      app = out.0.app;
      login = out.0.login;
      arg = out.0.arg;
      area = out.0.area;
      places = out.0.places;
      session = out.0.session;
      instance = out.0.instance;
      seen = out.0.seen;
      steps = out.0.steps;
      buffer = out.0.buffer;
      phase = out.0.phase;
    })
    call.phase refl out.0.phase out.1 ends undone opens
