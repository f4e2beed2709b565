-- A call whose job is taken to its stop as it goes out.
use Rattle.std.proofs.Common.{◌≡◌, ℕ, ◌+◌, ◌<◌, ◌≤◌, ◌^◌, true, false, List, [], Option, Some, None, refl, sym, ap, subst, ◌∙◌, arith}
use Rattle.std.specs.Prelude.{is_some}
use Rattle.std.specs.Option.{option_and_then}
use Rattle.group_model.specs.Group.{Going, Group, GroupCall, going_in, shows, stopped, taken_on}
use Rattle.job_model.proofs.JobSteps.{granted-IsGrant}
use Rattle.job_model.specs.Job.{Job}
use Rattle.job_model.specs.Steps.{Grant, IsGrant, JobStop, Left, Stop, Stopped, grant_of}
use Rattle.job_model.specs.Steps as steps
use Rattle.kernel_model.specs.Kernel.{CallPhase, Runs, Asks, Waits, Ends}
use Rattle.kernel_state.specs.Calls.{IsInPhase, bytes_of, woken_slot}
use Rattle.rpc_cont.specs.Advancing.{phase_after}
use Rattle.rpc_cont.specs.Conts.{call_owner, end_left, job_of, kept_params}
use Rattle.rpc_cont.specs.Running.{IsStop}
use Rattle.rpc_cont.specs.declared.cont.Asked.{Asked}
use Rattle.rpc_cont.specs.declared.cont.Cont.{Cont}
use Rattle.rpc_cont.specs.declared.phase.Phase.TheVariants as phase
use Rattle.rpc_cont.specs.declared.stop.ContStop.{ContStop}
use Rattle.rpc_cont.specs.declared.stop.ContStop.TheVariants as stop
use Rattle.rpc_msgs.specs.declared.rpc_buffer.RpcBuffer.{RpcBuffer}
use Rattle.solo.proofs.Outgoing.{HasStopped, ends_as, keeps_run}
use Rattle.solo.proofs.Stepped.{some_found}
use Rattle.group_solo.proofs.Going.{ended_so, panicked_so, unrun_so}
use Rattle.group_solo.specs.Calls.{IsGroupCall}
use Rattle.group_solo.specs.Ending.{after_end, after_panic, after_unrun, home_of, is_woken}
use Rattle.group_solo.specs.GoingOut.{IsGoing}
use Rattle.group_solo.specs.Standing.{IsBeside, without_calls}
use Rattle.group_solo.specs.declared.group.GroupSolo.{GroupSolo}
use Rattle.group_solo.specs.declared.kept_call.KeptCall.{KeptCall}

-- ---- its stop

-- within so many steps its job stops so, and this is what it comes to
pub record StopsAt (old : KeptCall) (g : Group) (call : GroupCall) (going : Going) (most : ℕ) : Type 0 where
  pub used : ℕ
  pub why : JobStop
  pub few : used ≤ most
  pub stops : Stop (job_of bytes_of old.cont) used why
  pub goes : stopped g (record call { steps = call.steps + used }) why ≡ going

by_grant : (old : KeptCall) (g : Group) (call : GroupCall) (going : Going) (job : Job) (most : ℕ) (grant : Grant) → job ≡ job_of bytes_of old.cont →
    grant_of most job ≡ Some grant → taken_on g call grant ≡ Some going → StopsAt old g call going most
by_grant old g call going job most (Left left) same is e = absurd cc
by_grant old g call going job most (Stopped used why) same is e =
    let granted : IsGrant job most (Stopped used why) = granted-IsGrant job most (Stopped used why) is in record {
      used = used;
      why = why;
      few = granted.0;
      stops = subst (λ (j : Job). Stop j used why) same granted.1;
      goes = cc;
    }

pub stops_at : (old : KeptCall) (g : Group) (call : GroupCall) (going : Going) (job : Job) (most : ℕ) → IsInPhase old.cont (Runs job) →
    going_in most g call (Runs job) ≡ Some going → StopsAt old g call going most
stops_at old g call going job most is e =
    let found = some_found (taken_on g call) (grant_of most job) going e in
    by_grant old g call going job most found.0 is.0 found.1.0 found.1.1

-- a call in this phase
pub in_phase_of : (old : KeptCall) (call : GroupCall) (at : CallPhase) → IsGroupCall old call → call.phase ≡ at → IsInPhase old.cont at
in_phase_of old call at is same = subst (IsInPhase old.cont) same is.alone.phase

-- ---- what its run leaves

-- it stops there
stop_of : (old ran : KeptCall) (answer : ContStop) (g : Group) (call : GroupCall) (going : Going) (most : ℕ) → HasStopped old.cont ran.cont answer → IsGroupCall old call →
    call.steps + most < 2 ^ 128 → (at : StopsAt old g call going most) →
    IsStop bytes_of (call_owner ran.cont) ran.cont (job_of bytes_of ran.cont) at.why answer × (ran.cont.steps ≡ call.steps + at.used)
stop_of old ran answer g call going most run is room at =
    let did = is.alone.steps in
    let few = at.few in
    let here = run.stops at.used at.why at.stops (omega (arith, did, few, room)) in
    (here.0, here.1 ∙ ap (λ (n : ℕ). n + at.used) did)

-- ---- it asks for something, or is interrupted

asks_so : (now : GroupSolo) (old ran : KeptCall) (answer : ContStop) (before : Group) (call : GroupCall) (used : ℕ) (why : JobStop) →
    HasStopped old.cont ran.cont answer → ran ≡ record old { cont = ran.cont } → IsBeside now before → IsGroupCall old call → ran.cont.steps ≡ call.steps + used →
    IsStop bytes_of (call_owner ran.cont) ran.cont (job_of bytes_of ran.cont) why answer → (phase_after answer ≡ phase.Ends → ⊥) →
    IsGoing now ran before (stopped before (record call { steps = call.steps + used }) why)
asks_so now old ran answer before call used (steps.Ends end) run same beside is did its not_ended = absurd (not_ended (ap phase_after its.0))
asks_so now old ran answer before call used (steps.Panics code) run same beside is did its not_ended = absurd (not_ended (ap phase_after its.0))
asks_so now old ran answer before call used (steps.Asks wanted payload left) run same beside is did its not_ended =
    let keeps = keeps_run old.cont ran.cont run.stays in record {
      beside = beside;
      is = record {
        alone = record {
          kind = keeps.kind ∙ is.alone.kind;
          seen = keeps.seen ∙ is.alone.seen;
          steps = did;
          area = ap (λ (a : Option ℕ). is_some a) keeps.area ∙ is.alone.area;
          buffer = ap (λ (b : Option RpcBuffer). is_some b) keeps.buffer ∙ is.alone.buffer;
          phase = (run.phase ∙ ap phase_after its.0, its.1, run.asks its.0);
        };
        session = ap (λ (k : KeptCall). k.session) same ∙ is.session;
        instance = ap (λ (k : KeptCall). k.instance) same ∙ is.instance;
        room = ap (λ (k : KeptCall). k.room) same ∙ is.room;
      };
      calls = refl;
    }

-- a call that asks goes so
pub asking_so : (now : GroupSolo) (old ran : KeptCall) (answer : ContStop) (before : Group) (call : GroupCall) (going : Going) (most : ℕ) →
    HasStopped old.cont ran.cont answer → ran ≡ record old { cont = ran.cont } → (phase_after answer ≡ phase.Ends → ⊥) → IsBeside now before → IsGroupCall old call →
    call.steps + most < 2 ^ 128 → StopsAt old before call going most → IsGoing now ran before going
asking_so now old ran answer before call going most run same not_ended beside is room at =
    let here = stop_of old ran answer before call going most run is room at in
    subst (IsGoing now ran before) at.goes
    (asks_so now old ran answer before call at.used at.why run same beside is here.1 here.0 not_ended)

-- ---- it ends

-- what `ended` makes of it
pub record Ended (s now : GroupSolo) (ran new : KeptCall) : Type 0 where
  pub beside : without_calls now ≡ after_end (without_calls s) (home_of ran) (end_left bytes_of ran.cont)
  pub wakes : option_and_then (λ (asked : Asked). woken_slot asked.rpc) new.cont.request ≡ is_woken (without_calls now) ran.instance ran.cont.kind
  pub stays : new ≡ record ran { cont = record ran.cont { memory = None; objects = []; request = new.cont.request; done = true } }

ends_so : (s now : GroupSolo) (old ran new : KeptCall) (answer : ContStop) (before : Group) (call : GroupCall) (used : ℕ) (why : JobStop) →
    HasStopped old.cont ran.cont answer → ran ≡ record old { cont = ran.cont } → Ended s now ran new → IsBeside s before → IsGroupCall old call → ran.cont.steps ≡ call.steps + used →
    IsStop bytes_of (call_owner ran.cont) ran.cont (job_of bytes_of ran.cont) why answer → ((code : ℕ) → answer ≡ stop.Panicked code → ⊥) → phase_after answer ≡ phase.Ends →
    IsGoing now new before (stopped before (record call { steps = call.steps + used }) why)
ends_so s now old ran new answer before call used (steps.Panics code) run same ended beside is did its not_panicked at = absurd (not_panicked code its.0)
ends_so s now old ran new answer before call used (steps.Asks wanted payload left) run same ended beside is did its not_panicked at =
    let asks : phase.Asks ≡ phase.Ends = sym (ap phase_after its.0) ∙ at in absurd cc
ends_so s now old ran new answer before call used (steps.Ends end) run same ended beside is did its not_panicked at =
    ended_so s now old ran new before call used end
    (record { is = is; same = same; keeps = keeps_run old.cont ran.cont run.stays; did = did; at = run.phase ∙ at })
    (record {
      same = ended.stays ∙ ap (λ (k : Cont (List ℕ)). record ran { cont = k }) (sym (ap (λ (k : KeptCall). k.cont) ended.stays));
      keeps = record {
        kind = ap (λ (k : KeptCall). k.cont.kind) ended.stays;
        seen = ap (λ (k : KeptCall). k.cont.cancelled) ended.stays;
        area = ap (λ (k : KeptCall). k.cont.area) ended.stays;
        buffer = ap (λ (k : KeptCall). k.cont.buffer) ended.stays;
      };
      did = ap (λ (k : KeptCall). k.cont.steps) ended.stays;
      at = ap (λ (k : KeptCall). k.cont.phase) ended.stays;
      told = ap (λ (k : KeptCall). k.cont.done) ended.stays;
      result = ap (λ (k : KeptCall). k.cont.result) ended.stays;
      wakes = ended.wakes;
    })
    beside its.1 (ap (λ (k : KeptCall). kept_params k.cont.params) ended.stays) ended.beside

pub ending_so : (s now : GroupSolo) (old ran new : KeptCall) (answer : ContStop) (before : Group) (call : GroupCall) (going : Going) (most : ℕ) →
    HasStopped old.cont ran.cont answer → ran ≡ record old { cont = ran.cont } → Ended s now ran new → ((code : ℕ) → answer ≡ stop.Panicked code → ⊥) →
    phase_after answer ≡ phase.Ends → IsBeside s before →
    IsGroupCall old call → call.steps + most < 2 ^ 128 → StopsAt old before call going most → IsGoing now new before going
ending_so s now old ran new answer before call going most run same ended not_panicked ends beside is room at =
    let here = stop_of old ran answer before call going most run is room at in
    subst (IsGoing now new before) at.goes
    (ends_so s now old ran new answer before call at.used at.why run same ended beside is here.1 here.0 not_panicked ends)

-- ---- it panics

-- what `panicked` makes of it
pub record Panicked (s now : GroupSolo) (ran new : KeptCall) : Type 0 where
  pub beside : without_calls now ≡ after_panic (without_calls s) (home_of ran)
  pub wakes : option_and_then (λ (asked : Asked). woken_slot asked.rpc) new.cont.request ≡ is_woken (without_calls now) ran.instance ran.cont.kind
  pub stays : new ≡ record ran { cont = record ran.cont { memory = None; params = None; request = new.cont.request; done = true } }

panics_so : (s now : GroupSolo) (old ran new : KeptCall) (answer : ContStop) (before : Group) (call : GroupCall) (used : ℕ) (why : JobStop) →
    HasStopped old.cont ran.cont answer → ran ≡ record old { cont = ran.cont } → Panicked s now ran new → IsBeside s before → IsGroupCall old call → ran.cont.steps ≡ call.steps + used →
    IsStop bytes_of (call_owner ran.cont) ran.cont (job_of bytes_of ran.cont) why answer → (code : ℕ) → answer ≡ stop.Panicked code →
    IsGoing now new before (stopped before (record call { steps = call.steps + used }) why)
panics_so s now old ran new answer before call used (steps.Ends end) run same panicked beside is did its code panics =
    let no : stop.Ended end.result ≡ stop.Panicked code = sym its.0 ∙ panics in absurd cc
panics_so s now old ran new answer before call used (steps.Asks wanted payload left) run same panicked beside is did its code panics =
    let no : stop.Asks ≡ stop.Panicked code = sym its.0 ∙ panics in absurd cc
panics_so s now old ran new answer before call used (steps.Panics code) run same panicked beside is did its other panics =
    panicked_so s now old ran new before call used code
    (record { is = is; same = same; keeps = keeps_run old.cont ran.cont run.stays; did = did; at = run.phase ∙ ap phase_after its.0 })
    (record {
      same = panicked.stays ∙ ap (λ (k : Cont (List ℕ)). record ran { cont = k }) (sym (ap (λ (k : KeptCall). k.cont) panicked.stays));
      keeps = record {
        kind = ap (λ (k : KeptCall). k.cont.kind) panicked.stays;
        seen = ap (λ (k : KeptCall). k.cont.cancelled) panicked.stays;
        area = ap (λ (k : KeptCall). k.cont.area) panicked.stays;
        buffer = ap (λ (k : KeptCall). k.cont.buffer) panicked.stays;
      };
      did = ap (λ (k : KeptCall). k.cont.steps) panicked.stays;
      at = ap (λ (k : KeptCall). k.cont.phase) panicked.stays;
      told = ap (λ (k : KeptCall). k.cont.done) panicked.stays;
      result = ap (λ (k : KeptCall). k.cont.result) panicked.stays;
      wakes = panicked.wakes;
    })
    beside its.1 (ap (λ (k : KeptCall). k.cont.params) panicked.stays) panicked.beside

pub panicking_so : (s now : GroupSolo) (old ran new : KeptCall) (answer : ContStop) (before : Group) (call : GroupCall) (going : Going) (most code : ℕ) →
    HasStopped old.cont ran.cont answer → ran ≡ record old { cont = ran.cont } → Panicked s now ran new → answer ≡ stop.Panicked code → IsBeside s before → IsGroupCall old call →
    call.steps + most < 2 ^ 128 → StopsAt old before call going most → IsGoing now new before going
panicking_so s now old ran new answer before call going most code run same panicked panics beside is room at =
    let here = stop_of old ran answer before call going most run is room at in
    subst (IsGoing now new before) at.goes
    (panics_so s now old ran new answer before call at.used at.why run same panicked beside is here.1 here.0 code panics)

-- ---- by its phase

still_going : (now : GroupSolo) (kept : KeptCall) (g : Group) (call : GroupCall) (going : Going) → IsBeside now g → IsGroupCall kept call →
    Some (record { group = g; call = call }) ≡ Some going → IsGoing now kept g going
still_going now kept g call going beside is e =
    let this : Going = record { group = g; call = call } in
    let same : this ≡ going = cc in
    subst (IsGoing now kept g) same (record { beside = beside; is = is; calls = refl })

rests_in : (now : GroupSolo) (kept : KeptCall) (g : Group) (call : GroupCall) (going : Going) (at : CallPhase) (most : ℕ) → IsBeside now g → IsGroupCall kept call →
    IsInPhase kept.cont at → (kept.cont.phase ≡ phase.Runs → ⊥) → (kept.cont.phase ≡ phase.Ends → ⊥) → going_in most g call at ≡ Some going → IsGoing now kept g going
rests_in now kept g call going (Runs job) most beside is here not_runs not_ends e = absurd (not_runs here.1.phase)
rests_in now kept g call going (Asks job wanted payload) most beside is here not_runs not_ends e = still_going now kept g call going beside is e
rests_in now kept g call going (Waits params) most beside is here not_runs not_ends e = still_going now kept g call going beside is e
rests_in now kept g call going (Ends result params told wakes) most beside is here not_runs not_ends e = absurd (not_ends here.phase)

-- one that asks or waits goes out as it is
pub rests_so : (now : GroupSolo) (kept : KeptCall) (g : Group) (call : GroupCall) (going : Going) (most : ℕ) → IsBeside now g → IsGroupCall kept call →
    (kept.cont.phase ≡ phase.Runs → ⊥) → (kept.cont.phase ≡ phase.Ends → ⊥) → going_in most g call call.phase ≡ Some going → IsGoing now kept g going
rests_so now kept g call going most beside is not_runs not_ends e =
    rests_in now kept g call going call.phase most beside is is.alone.phase not_runs not_ends e

going_at : (most : ℕ) (g : Group) (call : GroupCall) (going : Going) (at other : CallPhase) → at ≡ other → going_in most g call at ≡ Some going →
    going_in most g call other ≡ Some going
going_at most g call going at other same e = subst (λ (p : CallPhase). going_in most g call p ≡ Some going) same e

-- one whose result is shown already
pub shown_so : (now : GroupSolo) (kept : KeptCall) (g : Group) (call : GroupCall) (going : Going) (most : ℕ) → IsBeside now g → IsGroupCall kept call →
    kept.cont.phase ≡ phase.Ends → kept.cont.done ≡ true → going_in most g call call.phase ≡ Some going → IsGoing now kept g going
shown_so now kept g call going most beside is ends shown e =
    let its = ends_as kept.cont call.phase ends is.alone.phase in
    let at : call.phase ≡ Ends its.result its.params true its.wakes = its.is ∙ ap (λ b. Ends its.result its.params b its.wakes) (sym its.ended.told ∙ shown) in
    still_going now kept g call going beside is (going_at most g call going call.phase (Ends its.result its.params true its.wakes) at e)

-- what `unrun` makes of one
pub record Unrun (s now : GroupSolo) (old new : KeptCall) : Type 0 where
  pub beside : without_calls now ≡ after_unrun (without_calls s) (home_of old)
  pub wakes : option_and_then (λ (asked : Asked). woken_slot asked.rpc) new.cont.request ≡ is_woken (without_calls now) old.instance old.cont.kind
  pub stays : new ≡ record old { cont = record old.cont { request = new.cont.request; done = true } }

-- one that shows its result now
pub shows_now : (s now : GroupSolo) (old new : KeptCall) (g : Group) (call : GroupCall) (going : Going) (most : ℕ) → Unrun s now old new → IsBeside s g →
    IsGroupCall old call → old.cont.phase ≡ phase.Ends → old.cont.done ≡ false → going_in most g call call.phase ≡ Some going → IsGoing now new g going
shows_now s now old new g call going most unrun beside is ends fresh e =
    let its = ends_as old.cont call.phase ends is.alone.phase in
    let at : call.phase ≡ Ends its.result its.params false its.wakes = its.is ∙ ap (λ b. Ends its.result its.params b its.wakes) (sym its.ended.told ∙ fresh) in
    let this : Going = shows (after_unrun g (record { kind = call.kind; session = call.session; instance = call.instance })) call its.result its.params in
    let so : Some this ≡ Some going = going_at most g call going call.phase (Ends its.result its.params false its.wakes) at e in
    let same : this ≡ going = cc in
    subst (IsGoing now new g) same
    (unrun_so s now old new g call its.result its.params
    (record { is = is; same = refl; keeps = record { kind = refl; seen = refl; area = refl; buffer = refl }; did = is.alone.steps ∙ omega arith; at = ends })
    (record {
      same = unrun.stays ∙ ap (λ (k : Cont (List ℕ)). record old { cont = k }) (sym (ap (λ (k : KeptCall). k.cont) unrun.stays));
      keeps = record {
        kind = ap (λ (k : KeptCall). k.cont.kind) unrun.stays;
        seen = ap (λ (k : KeptCall). k.cont.cancelled) unrun.stays;
        area = ap (λ (k : KeptCall). k.cont.area) unrun.stays;
        buffer = ap (λ (k : KeptCall). k.cont.buffer) unrun.stays;
      };
      did = ap (λ (k : KeptCall). k.cont.steps) unrun.stays;
      at = ap (λ (k : KeptCall). k.cont.phase) unrun.stays;
      told = ap (λ (k : KeptCall). k.cont.done) unrun.stays;
      result = ap (λ (k : KeptCall). k.cont.result) unrun.stays;
      wakes = unrun.wakes;
    })
    beside its.ended.result (ap (λ (k : KeptCall). kept_params k.cont.params) unrun.stays ∙ its.ended.params) unrun.beside)
