-- A call whose job is taken to its stop as it goes out.
use Rattle.std.proofs.Common.{◌⊎◌, inl, inr, ◌≡◌, ℕ, ◌+◌, ◌<◌, ◌≤◌, ◌^◌, Bool, true, false, List, [], Option, Some, None, refl, sym, ap, subst, ◌∙◌, arith}
use Rattle.std.specs.Option.{option_and_then}
use Rattle.job_model.proofs.JobSteps.{granted-IsGrant}
use Rattle.job_model.specs.Job.{Job}
use Rattle.job_model.specs.Steps.{Grant, IsGrant, JobStop, Left, Stop, Stopped, grant_of}
use Rattle.job_model.specs.Steps as steps
use Rattle.kernel_model.specs.Kernel.{CallPhase, Runs, Asks, Waits, Ends}
use Rattle.kernel_state.specs.Calls.{HasEnded, IsInPhase, bytes_of, woken_slot}
use Rattle.own_model.specs.Solo.{Going, OwnCall, Solo, going_in, session_unrun, shows, stopped, taken_on, woken_by}
use Rattle.rpc_cont.specs.Advancing.{phase_after}
use Rattle.rpc_cont.specs.Answering.{CanBeAnswered}
use Rattle.rpc_cont.specs.Conts.{call_owner, end_left, job_of, kept_params}
use Rattle.rpc_cont.specs.Running.{IsStop, worked}
use Rattle.rpc_cont.specs.declared.cont.Asked.{Asked}
use Rattle.rpc_cont.specs.declared.cont.Cont.{Cont}
use Rattle.rpc_cont.specs.declared.phase.Phase.{Phase}
use Rattle.rpc_cont.specs.declared.phase.Phase.TheVariants as phase
use Rattle.rpc_cont.specs.declared.stop.ContStop.{ContStop}
use Rattle.rpc_cont.specs.declared.stop.ContStop.TheVariants as stop
use Rattle.rpc_msgs.specs.declared.rpc_buffer.RpcBuffer.{RpcBuffer}
use Rattle.std.specs.Prelude.{is_some}
use Rattle.solo.proofs.Going.{Keeps, after_end, after_panic, ended_so, panicked_so, unrun_so}
use Rattle.solo.proofs.Stepped.{some_found}
use Rattle.solo.specs.Calls.{IsCall}
use Rattle.solo.specs.GoingOut.{IsGoing}
use Rattle.solo.specs.Standing.{IsBeside, without_calls}
use Rattle.solo.specs.declared.solo_session.SoloSession.{SoloSession}
use Rattle.ta_params.specs.declared.call_result.CallResult.{CallResult}
use Rattle.ta_params.specs.declared.copied_params.CopiedParams.{CopiedParams}

-- ---- its stop

-- within so many steps its job stops so, and this is what it comes to
pub record StopsAt (old : Cont (List ℕ)) (solo : Solo) (call : OwnCall) (going : Going) (most : ℕ) : Type 0 where
  pub used : ℕ
  pub why : JobStop
  pub few : used ≤ most
  pub stops : Stop (job_of bytes_of old) used why
  pub goes : stopped solo (record call { steps = call.steps + used }) why ≡ going

by_grant : (old : Cont (List ℕ)) (solo : Solo) (call : OwnCall) (going : Going) (job : Job) (most : ℕ) (grant : Grant) → job ≡ job_of bytes_of old →
    grant_of most job ≡ Some grant → taken_on solo call grant ≡ Some going → StopsAt old solo call going most
by_grant old solo call going job most (Left left) same is e = absurd cc
by_grant old solo call going job most (Stopped used why) same is e =
    let granted : IsGrant job most (Stopped used why) = granted-IsGrant job most (Stopped used why) is in record {
      used = used;
      why = why;
      few = granted.0;
      stops = subst (λ (j : Job). Stop j used why) same granted.1;
      goes = cc;
    }

pub stops_at : (old : Cont (List ℕ)) (solo : Solo) (call : OwnCall) (going : Going) (job : Job) (most : ℕ) → IsInPhase old (Runs job) →
    going_in most solo call (Runs job) ≡ Some going → StopsAt old solo call going most
stops_at old solo call going job most is e =
    let found = some_found (taken_on solo call) (grant_of most job) going e in
    by_grant old solo call going job most found.0 is.0 found.1.0 found.1.1

-- a call in this phase
pub in_phase_of : (old : Cont (List ℕ)) (call : OwnCall) (at : CallPhase) → IsCall old call → call.phase ≡ at → IsInPhase old at
in_phase_of old call at is same = subst (IsInPhase old) same is.phase

-- ---- what its run leaves

-- the job has been run to a stop
pub record HasStopped (old ran : Cont (List ℕ)) (answer : ContStop) : Type 0 where
  pub stops : (used : ℕ) (why : JobStop) → Stop (job_of bytes_of old) used why → old.steps + used < 2 ^ 128 →
      IsStop bytes_of (call_owner ran) ran (job_of bytes_of ran) why answer × (ran.steps ≡ old.steps + used)
  pub asks : answer ≡ stop.Asks → CanBeAnswered bytes_of ran
  pub phase : ran.phase ≡ phase_after answer
  pub stays : ran ≡ record (worked old ran) { steps = ran.steps; phase = ran.phase }

pub keeps_run : (old ran : Cont (List ℕ)) → ran ≡ record (worked old ran) { steps = ran.steps; phase = ran.phase } → Keeps old ran
keeps_run old ran stays = record {
  kind = ap (λ (c : Cont (List ℕ)). c.kind) stays;
  seen = ap (λ (c : Cont (List ℕ)). c.cancelled) stays;
  area = ap (λ (c : Cont (List ℕ)). c.area) stays;
  buffer = ap (λ (c : Cont (List ℕ)). c.buffer) stays;
}

-- it stops there
stop_of : (old ran : Cont (List ℕ)) (answer : ContStop) (solo : Solo) (call : OwnCall) (going : Going) (most : ℕ) → HasStopped old ran answer → IsCall old call →
    call.steps + most < 2 ^ 128 → (at : StopsAt old solo call going most) →
    IsStop bytes_of (call_owner ran) ran (job_of bytes_of ran) at.why answer × (ran.steps ≡ call.steps + at.used)
stop_of old ran answer solo call going most run is room at =
    let did = is.steps in
    let few = at.few in
    let here = run.stops at.used at.why at.stops (omega (arith, did, few, room)) in
    (here.0, here.1 ∙ ap (λ (n : ℕ). n + at.used) did)

-- ---- it asks for something, or is interrupted

asks_so : (now : SoloSession) (old ran : Cont (List ℕ)) (answer : ContStop) (before : Solo) (call : OwnCall) (used : ℕ) (why : JobStop) →
    HasStopped old ran answer → IsBeside now before → IsCall old call → ran.steps ≡ call.steps + used →
    IsStop bytes_of (call_owner ran) ran (job_of bytes_of ran) why answer → (phase_after answer ≡ phase.Ends → ⊥) →
    IsGoing now ran before (stopped before (record call { steps = call.steps + used }) why)
asks_so now old ran answer before call used (steps.Ends end) run beside is did its not_ended = absurd (not_ended (ap phase_after its.0))
asks_so now old ran answer before call used (steps.Panics code) run beside is did its not_ended = absurd (not_ended (ap phase_after its.0))
asks_so now old ran answer before call used (steps.Asks wanted payload left) run beside is did its not_ended =
    let keeps = keeps_run old ran run.stays in record {
      beside = beside;
      is = record {
        kind = keeps.kind ∙ is.kind;
        seen = keeps.seen ∙ is.seen;
        steps = did;
        area = ap (λ (a : Option ℕ). is_some a) keeps.area ∙ is.area;
        buffer = ap (λ (b : Option RpcBuffer). is_some b) keeps.buffer ∙ is.buffer;
        phase = (run.phase ∙ ap phase_after its.0, its.1, run.asks its.0);
      };
      calls = refl;
    }

-- a call that asks goes so
pub asking_so : (now : SoloSession) (old ran : Cont (List ℕ)) (answer : ContStop) (before : Solo) (call : OwnCall) (going : Going) (most : ℕ) →
    HasStopped old ran answer → (phase_after answer ≡ phase.Ends → ⊥) → IsBeside now before → IsCall old call → call.steps + most < 2 ^ 128 →
    StopsAt old before call going most → IsGoing now ran before going
asking_so now old ran answer before call going most run not_ended beside is room at =
    let here = stop_of old ran answer before call going most run is room at in
    subst (IsGoing now ran before) at.goes
    (asks_so now old ran answer before call at.used at.why run beside is here.1 here.0 not_ended)

-- ---- it ends

-- what `ended` makes of it
pub record Ended (s now : SoloSession) (ran new : Cont (List ℕ)) : Type 0 where
  pub beside : without_calls now ≡ after_end (without_calls s) ran.kind (end_left bytes_of ran)
  pub wakes : option_and_then (λ (asked : Asked). woken_slot asked.rpc) new.request ≡ woken_by (without_calls now) ran.kind
  pub stays : new ≡ record ran { memory = None; objects = []; request = new.request; done = true }

ends_so : (s now : SoloSession) (old ran new : Cont (List ℕ)) (answer : ContStop) (before : Solo) (call : OwnCall) (used : ℕ) (why : JobStop) →
    HasStopped old ran answer → Ended s now ran new → IsBeside s before → IsCall old call → ran.steps ≡ call.steps + used →
    IsStop bytes_of (call_owner ran) ran (job_of bytes_of ran) why answer → ((code : ℕ) → answer ≡ stop.Panicked code → ⊥) → phase_after answer ≡ phase.Ends →
    IsGoing now new before (stopped before (record call { steps = call.steps + used }) why)
ends_so s now old ran new answer before call used (steps.Panics code) run ended beside is did its not_panicked at = absurd (not_panicked code its.0)
ends_so s now old ran new answer before call used (steps.Asks wanted payload left) run ended beside is did its not_panicked at =
    let asks : phase.Asks ≡ phase.Ends = sym (ap phase_after its.0) ∙ at in absurd cc
ends_so s now old ran new answer before call used (steps.Ends end) run ended beside is did its not_panicked at =
    ended_so s now old ran new before call used end
    (record { is = is; keeps = keeps_run old ran run.stays; did = did; at = run.phase ∙ at })
    (record {
      keeps = record {
        kind = ap (λ (c : Cont (List ℕ)). c.kind) ended.stays;
        seen = ap (λ (c : Cont (List ℕ)). c.cancelled) ended.stays;
        area = ap (λ (c : Cont (List ℕ)). c.area) ended.stays;
        buffer = ap (λ (c : Cont (List ℕ)). c.buffer) ended.stays;
      };
      did = ap (λ (c : Cont (List ℕ)). c.steps) ended.stays;
      at = ap (λ (c : Cont (List ℕ)). c.phase) ended.stays;
      told = ap (λ (c : Cont (List ℕ)). c.done) ended.stays;
      result = ap (λ (c : Cont (List ℕ)). c.result) ended.stays;
      wakes = ended.wakes;
    })
    beside its.1 (ap (λ (c : Cont (List ℕ)). kept_params c.params) ended.stays) ended.beside

pub ending_so : (s now : SoloSession) (old ran new : Cont (List ℕ)) (answer : ContStop) (before : Solo) (call : OwnCall) (going : Going) (most : ℕ) →
    HasStopped old ran answer → Ended s now ran new → ((code : ℕ) → answer ≡ stop.Panicked code → ⊥) → phase_after answer ≡ phase.Ends → IsBeside s before →
    IsCall old call → call.steps + most < 2 ^ 128 → StopsAt old before call going most → IsGoing now new before going
ending_so s now old ran new answer before call going most run ended not_panicked ends beside is room at =
    let here = stop_of old ran answer before call going most run is room at in
    subst (IsGoing now new before) at.goes
    (ends_so s now old ran new answer before call at.used at.why run ended beside is here.1 here.0 not_panicked ends)

-- ---- it panics

-- what `panicked` makes of it
pub record Panicked (s now : SoloSession) (ran new : Cont (List ℕ)) : Type 0 where
  pub beside : without_calls now ≡ after_panic (without_calls s) ran.kind
  pub wakes : option_and_then (λ (asked : Asked). woken_slot asked.rpc) new.request ≡ woken_by (without_calls now) ran.kind
  pub stays : new ≡ record ran { memory = None; params = None; request = new.request; done = true }

panics_so : (s now : SoloSession) (old ran new : Cont (List ℕ)) (answer : ContStop) (before : Solo) (call : OwnCall) (used : ℕ) (why : JobStop) →
    HasStopped old ran answer → Panicked s now ran new → IsBeside s before → IsCall old call → ran.steps ≡ call.steps + used →
    IsStop bytes_of (call_owner ran) ran (job_of bytes_of ran) why answer → (code : ℕ) → answer ≡ stop.Panicked code →
    IsGoing now new before (stopped before (record call { steps = call.steps + used }) why)
panics_so s now old ran new answer before call used (steps.Ends end) run panicked beside is did its code panics =
    let no : stop.Ended end.result ≡ stop.Panicked code = sym its.0 ∙ panics in absurd cc
panics_so s now old ran new answer before call used (steps.Asks wanted payload left) run panicked beside is did its code panics =
    let no : stop.Asks ≡ stop.Panicked code = sym its.0 ∙ panics in absurd cc
panics_so s now old ran new answer before call used (steps.Panics code) run panicked beside is did its other panics =
    panicked_so s now old ran new before call used code
    (record { is = is; keeps = keeps_run old ran run.stays; did = did; at = run.phase ∙ ap phase_after its.0 })
    (record {
      keeps = record {
        kind = ap (λ (c : Cont (List ℕ)). c.kind) panicked.stays;
        seen = ap (λ (c : Cont (List ℕ)). c.cancelled) panicked.stays;
        area = ap (λ (c : Cont (List ℕ)). c.area) panicked.stays;
        buffer = ap (λ (c : Cont (List ℕ)). c.buffer) panicked.stays;
      };
      did = ap (λ (c : Cont (List ℕ)). c.steps) panicked.stays;
      at = ap (λ (c : Cont (List ℕ)). c.phase) panicked.stays;
      told = ap (λ (c : Cont (List ℕ)). c.done) panicked.stays;
      result = ap (λ (c : Cont (List ℕ)). c.result) panicked.stays;
      wakes = panicked.wakes;
    })
    beside its.1 (ap (λ (c : Cont (List ℕ)). c.params) panicked.stays) panicked.beside

pub panicking_so : (s now : SoloSession) (old ran new : Cont (List ℕ)) (answer : ContStop) (before : Solo) (call : OwnCall) (going : Going) (most code : ℕ) →
    HasStopped old ran answer → Panicked s now ran new → answer ≡ stop.Panicked code → IsBeside s before → IsCall old call → call.steps + most < 2 ^ 128 →
    StopsAt old before call going most → IsGoing now new before going
panicking_so s now old ran new answer before call going most code run panicked panics beside is room at =
    let here = stop_of old ran answer before call going most run is room at in
    subst (IsGoing now new before) at.goes
    (panics_so s now old ran new answer before call at.used at.why run panicked beside is here.1 here.0 code panics)

-- ---- its answer

pub no_panic : (answer : ContStop) (result : CallResult) → answer ≡ stop.Ended result → (code : ℕ) → answer ≡ stop.Panicked code → ⊥
no_panic answer result is code e = let no : stop.Ended result ≡ stop.Panicked code = sym is ∙ e in absurd cc

pub at_end : (answer : ContStop) (result : CallResult) → answer ≡ stop.Ended result → phase_after answer ≡ phase.Ends
at_end answer result is = ap phase_after is

pub not_over : (answer : ContStop) → (answer ≡ stop.Interrupted) ⊎ (answer ≡ stop.Asks) → phase_after answer ≡ phase.Ends → ⊥
not_over answer (inl is) e = let runs : phase.Runs ≡ phase.Ends = sym (ap phase_after is) ∙ e in absurd cc
not_over answer (inr is) e = let asks : phase.Asks ≡ phase.Ends = sym (ap phase_after is) ∙ e in absurd cc

-- ---- by its phase

pub runs_as : (cont : Cont (List ℕ)) (at : CallPhase) → cont.phase ≡ phase.Runs → IsInPhase cont at → (job : Job) × (at ≡ Runs job)
runs_as cont (Runs job) here is = (job, refl)
runs_as cont (Asks job wanted payload) here is = let there = is.0 in absurd cc
runs_as cont (Waits params) here is = let there = is.phase in absurd cc
runs_as cont (Ends result params told wakes) here is = let there = is.phase in absurd cc

-- one that is at its end
pub record EndsAs (cont : Cont (List ℕ)) (at : CallPhase) : Type 0 where
  pub result : CallResult
  pub params : CopiedParams
  pub was_told : Bool
  pub wakes : Option ℕ
  pub is : at ≡ Ends result params was_told wakes
  pub ended : HasEnded cont result params was_told wakes

pub ends_as : (cont : Cont (List ℕ)) (at : CallPhase) → cont.phase ≡ phase.Ends → IsInPhase cont at → EndsAs cont at
ends_as cont (Runs job) here is = let there = is.1.phase in absurd cc
ends_as cont (Asks job wanted payload) here is = let there = is.0 in absurd cc
ends_as cont (Waits params) here is = let there = is.phase in absurd cc
ends_as cont (Ends result params told wakes) here is =
    record { result = result; params = params; was_told = told; wakes = wakes; is = refl; ended = is }

still_going : (now : SoloSession) (cont : Cont (List ℕ)) (solo : Solo) (call : OwnCall) (going : Going) → IsBeside now solo → IsCall cont call →
    Some (record { solo = solo; call = call }) ≡ Some going → IsGoing now cont solo going
still_going now cont solo call going beside is e =
    let this : Going = record { solo = solo; call = call } in
    let same : this ≡ going = cc in
    subst (IsGoing now cont solo) same (record { beside = beside; is = is; calls = refl })

rests_in : (now : SoloSession) (cont : Cont (List ℕ)) (solo : Solo) (call : OwnCall) (going : Going) (at : CallPhase) (most : ℕ) → IsBeside now solo → IsCall cont call →
    IsInPhase cont at → (cont.phase ≡ phase.Runs → ⊥) → (cont.phase ≡ phase.Ends → ⊥) → going_in most solo call at ≡ Some going → IsGoing now cont solo going
rests_in now cont solo call going (Runs job) most beside is here not_runs not_ends e = absurd (not_runs here.1.phase)
rests_in now cont solo call going (Asks job wanted payload) most beside is here not_runs not_ends e = still_going now cont solo call going beside is e
rests_in now cont solo call going (Waits params) most beside is here not_runs not_ends e = still_going now cont solo call going beside is e
rests_in now cont solo call going (Ends result params told wakes) most beside is here not_runs not_ends e = absurd (not_ends here.phase)

-- one that asks or waits goes out as it is
pub rests_so : (now : SoloSession) (cont : Cont (List ℕ)) (solo : Solo) (call : OwnCall) (going : Going) (most : ℕ) → IsBeside now solo → IsCall cont call →
    (cont.phase ≡ phase.Runs → ⊥) → (cont.phase ≡ phase.Ends → ⊥) → going_in most solo call call.phase ≡ Some going → IsGoing now cont solo going
rests_so now cont solo call going most beside is not_runs not_ends e =
    rests_in now cont solo call going call.phase most beside is is.phase not_runs not_ends e

going_at : (most : ℕ) (solo : Solo) (call : OwnCall) (going : Going) (at other : CallPhase) → at ≡ other → going_in most solo call at ≡ Some going →
    going_in most solo call other ≡ Some going
going_at most solo call going at other same e = subst (λ (p : CallPhase). going_in most solo call p ≡ Some going) same e

-- one whose result is shown already
pub shown_so : (now : SoloSession) (cont : Cont (List ℕ)) (solo : Solo) (call : OwnCall) (going : Going) (most : ℕ) → IsBeside now solo → IsCall cont call →
    cont.phase ≡ phase.Ends → cont.done ≡ true → going_in most solo call call.phase ≡ Some going → IsGoing now cont solo going
shown_so now cont solo call going most beside is ends shown e =
    let its = ends_as cont call.phase ends is.phase in
    let at : call.phase ≡ Ends its.result its.params true its.wakes = its.is ∙ ap (λ (b : Bool). Ends its.result its.params b its.wakes) (sym its.ended.told ∙ shown) in
    still_going now cont solo call going beside is (going_at most solo call going call.phase (Ends its.result its.params true its.wakes) at e)

-- what `unrun` makes of one
pub record Unrun (s now : SoloSession) (old new : Cont (List ℕ)) : Type 0 where
  pub beside : without_calls now ≡ record (without_calls s) { session = option_and_then (session_unrun old.kind) (without_calls s).session }
  pub wakes : option_and_then (λ (asked : Asked). woken_slot asked.rpc) new.request ≡ woken_by (without_calls now) old.kind
  pub stays : new ≡ record old { request = new.request; done = true }

-- one that shows its result now
pub shows_now : (s now : SoloSession) (old new : Cont (List ℕ)) (solo : Solo) (call : OwnCall) (going : Going) (most : ℕ) → Unrun s now old new → IsBeside s solo →
    IsCall old call → old.phase ≡ phase.Ends → old.done ≡ false → going_in most solo call call.phase ≡ Some going → IsGoing now new solo going
shows_now s now old new solo call going most unrun beside is ends fresh e =
    let its = ends_as old call.phase ends is.phase in
    let at : call.phase ≡ Ends its.result its.params false its.wakes = its.is ∙ ap (λ (b : Bool). Ends its.result its.params b its.wakes) (sym its.ended.told ∙ fresh) in
    let this : Going = shows (record solo { session = option_and_then (session_unrun call.kind) solo.session }) call its.result its.params in
    let so : Some this ≡ Some going = going_at most solo call going call.phase (Ends its.result its.params false its.wakes) at e in
    let same : this ≡ going = cc in
    subst (IsGoing now new solo) same
    (unrun_so s now old new solo call its.result its.params is
    (record {
      kind = ap (λ (c : Cont (List ℕ)). c.kind) unrun.stays;
      seen = ap (λ (c : Cont (List ℕ)). c.cancelled) unrun.stays;
      area = ap (λ (c : Cont (List ℕ)). c.area) unrun.stays;
      buffer = ap (λ (c : Cont (List ℕ)). c.buffer) unrun.stays;
    })
    ends (ap (λ (c : Cont (List ℕ)). c.steps) unrun.stays) (ap (λ (c : Cont (List ℕ)). c.phase) unrun.stays)
    (ap (λ (c : Cont (List ℕ)). c.result) unrun.stays) (ap (λ (c : Cont (List ℕ)). c.params) unrun.stays) (ap (λ (c : Cont (List ℕ)). c.done) unrun.stays)
    its.ended.result its.ended.params beside unrun.beside unrun.wakes)

pub not_working : (at : Phase) → (at ≡ phase.Asks) ⊎ (at ≡ phase.Waits) → (at ≡ phase.Runs → ⊥) × (at ≡ phase.Ends → ⊥)
not_working at (inl is) = (
  λ e. let no : phase.Asks ≡ phase.Runs = sym is ∙ e in absurd cc,
  λ e. let no : phase.Asks ≡ phase.Ends = sym is ∙ e in absurd cc,
)
not_working at (inr is) = (
  λ e. let no : phase.Waits ≡ phase.Runs = sym is ∙ e in absurd cc,
  λ e. let no : phase.Waits ≡ phase.Ends = sym is ∙ e in absurd cc,
)
