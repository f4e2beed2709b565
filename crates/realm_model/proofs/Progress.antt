-- What a call of the realm comes to as it goes out is what the machine's call comes to.
use Rattle.std.proofs.Common.{◌≡◌, ℕ, ◌+◌, ◌-◌, ◌≤◌, true, false, List, Option, Some, None, refl, ap, subst, sym, ◌∙◌}
use Rattle.std.proofs.Common.{arith}
use Rattle.std.specs.Prelude.{is_some}
use Rattle.std.specs.Option.{option_and_then}
use Rattle.base.specs.NumberMap.{NumberMap, IsRising, get}
use Rattle.job_model.specs.declared.call_kind.CallKind.{CallKind}
use Rattle.job_model.specs.declared.call_kind.CallKind.TheVariants as kind
use Rattle.job_model.specs.Flag.{HasSeenCancel}
use Rattle.job_model.specs.Job.{Job, of_tee, with_cancel_seen}
use Rattle.job_model.specs.Point.{no_params}
use Rattle.job_model.specs.Steps.{End, Grant, JobStop, Left, Stop, Stopped, grant_of}
use Rattle.job_model.specs.Steps as steps
use Rattle.job_model.proofs.JobSteps.{granted-IsGrant, stop-granted, stop_at-sum}
use Rattle.job_model.proofs.SeenCancel.{cancel_stays_seen}
use Rattle.rpc_msgs.specs.declared.rpc.Rpc.{Rpc}
use Rattle.session_table.specs.declared.session.Session.{Session}
use Rattle.ta_params.specs.declared.call_result.CallResult.{CallResult}
use Rattle.ta_params.specs.declared.copied_params.CopiedParams.{CopiedParams}
use Rattle.kernel_model.specs.Codes.{target_dead}
use Rattle.kernel_model.specs.Exit.{after_grant, after_stop, further, progress_in, shows_result, tables_after_end}
use Rattle.kernel_model.specs.Exit.{tables_after_panic, tables_unrun, woken_by}
use Rattle.kernel_model.specs.Instances.{given_back, killed}
use Rattle.kernel_model.specs.Kernel.{Asks, CallPhase, Ends, Kernel, PendingCall, Progress, Runs, Tables, Waits}
use Rattle.kernel_model.specs.Leaving.{Interrupted, leaving_of}
use Rattle.kernel_model.specs.Resume.{phase_seen}
use Rattle.kernel_model.specs.Sessions.{sessions_after, sessions_after_panic}
use Rattle.kernel_model.specs.Sessions as kept_sessions
use Rattle.kernel_model.proofs.Parts.{option_map_some}
use Rattle.own_model.proofs.OwnChanges.{some_number}
use Rattle.own_model.proofs.OwnWakes.{KeepsWake, keeps_shown, keeps_told}
use Rattle.own_model.specs.Own.{wake_kept, wake_of, with_wake}
use Rattle.own_model.specs.Tied.{HoldersAlike, IsFurther, PhasesAlike, WakesAlike, WasTold}
use Rattle.group_model.specs.Group.{Going, Group, GroupCall, GroupSession, gives_back, going_in, nobody_there, sessions_ended}
use Rattle.group_model.specs.Group.{sessions_panicked, sessions_unrun, shows, stopped, taken_on}
use Rattle.group_model.specs.Group as machine
use Rattle.realm_model.specs.Reading.{Notes}
use Rattle.group_model.specs.InOrder.{Fits, IsInOrder}
use Rattle.realm_model.specs.Realm.{AllSessions, OneSession, Realm}
use Rattle.realm_model.specs.Laws.{About, AsRealm, IsOne, OpensRun, names_of}
use Rattle.group_model.specs.Tied.{AreasAlike, CallsAlike, HomesAlike, IsTold, Names}
use Rattle.realm_model.specs.Tied.{Tied}
use Rattle.realm_model.proofs.CallChanges.{tables_change}
use Rattle.group_model.proofs.Ends.{SessionsGo, ended_so, panicked_so, unrun_so}
use Rattle.realm_model.proofs.Ends.{gives_back_tied}
use Rattle.realm_model.proofs.Woken.{woken_alike}
use Rattle.realm_model.proofs.Ends.{given_alike, killed_alike}

-- ---- its job has stopped

pub stop_steps : (tables : Tables) (call : PendingCall) (why : JobStop)
    → (after_stop tables call why).call.steps ≡ call.steps
stop_steps tables call (steps.Ends end) = refl
stop_steps tables call (steps.Panics code) = refl
stop_steps tables call (steps.Asks wanted payload left) = refl

-- ---- a call of the realm

-- a kernel and a machine that are tied, and the call in the slot of a number
pub record Place : Type 0 where
  pub about : About
  pub kernel : Kernel
  pub notes : Notes
  -- the numbers of the instances
  pub instances : NumberMap ℕ
  pub group : Group
  pub slot : ℕ
  pub number : ℕ
  pub as_realm : AsRealm about.members.realm notes.next_session instances group

-- where a call is there the open has come, so that the machine may change
pub still_as : (realm : Realm) (next_session : ℕ) (instances : NumberMap ℕ) (g then : Group) (number : ℕ) (own : GroupCall)
    → get g.calls number ≡ Some own → AsRealm realm next_session instances g → (IsOne realm → OpensRun then.calls)
    → AsRealm realm next_session instances then
still_as (OneSession member) next_session instances g then number own there one runs = record {
  runs = runs tt;
  lone = one.lone;
  fresh = λ none. absurd (nobody (one.fresh none).0);
}
  where
    nobody : g ≡ nobody_there g.key → ⊥
    nobody is = let no : None ≡ Some own = sym (ap (λ (x : Group). get x.calls number) is) ∙ there in absurd cc
still_as (AllSessions app) next_session instances g then number own there one runs = tt

abbrev pub names_at : Place → Names
names_at p = names_of p.about p.notes p.instances

-- whom the call was kept to wake
abbrev pub kept_at : Place → Option ℕ
kept_at p = get p.notes.numbering.wakes p.slot

-- the call of the slot and the machine's
pub record OwnThere (p : Place) (call : PendingCall) (own : GroupCall) : Type 0 where
  pub has : get p.notes.numbering.in_slots p.slot ≡ Some p.number
  pub of_number : get p.group.calls p.number ≡ Some own
  pub alike : CallsAlike p.notes.sessions p.instances (kept_at p) call own
  pub tied : Tied p.about.members (names_at p) p.kernel.slots p.kernel.tables p.group
  pub order : IsInOrder p.group
  pub rising : IsRising p.kernel.tables.sessions

-- what it comes to, and the machine's
pub record Comes (p : Place) (own : GroupCall) (progress : Progress) : Type 0 where
  pub going : Going
  pub goes : going_in p.about.most p.group own own.phase ≡ Some going
  pub tied : Tied p.about.members (names_at p) p.kernel.slots progress.tables going.group
  pub keeps : KeepsWake p.notes.numbering p.slot progress.call.phase (wake_of going.call.phase)
  pub alike : CallsAlike p.notes.sessions p.instances (get keeps.wakes p.slot) progress.call going.call
  pub told : (woken : ℕ) → get keeps.wakes p.slot ≡ Some woken → IsTold going.call

pub same_own : (first second : GroupCall) → Some first ≡ Some second → first ≡ second
same_own first second e = cc

-- whom a call wakes is kept where its result was told
pub kept_told : (p : Place) (call : PendingCall) (own : GroupCall) → OwnThere p call own → (woken : ℕ)
    → kept_at p ≡ Some woken → IsTold own
kept_told p call own h woken is =
    let its = h.tied.kept p.slot woken is in
    let numbers : its.number ≡ p.number = some_number its.number p.number (sym its.has ∙ h.has) in
    let same : its.own ≡ own =
    same_own its.own own (sym its.of_number ∙ ap (λ n. get p.group.calls n) numbers ∙ h.of_number) in
    subst (λ (o : GroupCall). IsTold o) same its.told

-- and not before that
pub untold_none : (p : Place) (call : PendingCall) (own : GroupCall) → OwnThere p call own → (IsTold own → ⊥)
    → kept_at p ≡ None
untold_none p call own h untold = by_kept (kept_at p) refl
  where
    by_kept : (kept : Option ℕ) → kept_at p ≡ kept → kept ≡ None
    by_kept None is = refl
    by_kept (Some woken) is = absurd (untold (kept_told p call own h woken is))

nobody_kept : {P : Type 0} (kept : Option ℕ) → kept ≡ None → (woken : ℕ) → kept ≡ Some woken → P
nobody_kept kept none woken is = let no : None ≡ Some woken = sym none ∙ is in absurd cc

-- ---- its result is told from now on

-- the machine and its call, at the first telling
record Shows (p : Place) (g : Group) (own shown : GroupCall) (tables : Tables) (call : PendingCall)
    (result : CallResult) (params : CopiedParams) : Type 0 where
  untold : kept_at p ≡ None
  tied : Tied p.about.members (names_at p) p.kernel.slots tables g
  homes : HomesAlike p.notes.sessions p.instances call shown call.kind
  kinds : call.kind ≡ shown.kind
  seen : call.seen ≡ shown.seen
  areas : AreasAlike call shown call.kind
  buffers : is_some call.buffer ≡ shown.buffer
  goes : going_in p.about.most p.group own own.phase ≡ Some (shows g shown result params)

shows_so : (p : Place) (g : Group) (own shown : GroupCall) (tables : Tables) (call : PendingCall) (result : CallResult)
    (params : CopiedParams) → Shows p g own shown tables call result params
    → Comes p own (shows_result tables call result params)
shows_so p g own shown tables call result params s =
    let numbers : NumberMap ℕ = p.notes.numbering.in_slots in
    let woken : HoldersAlike numbers (woken_by tables call call.kind) (machine.woken_by g shown shown.kind) =
    subst (λ k. HoldersAlike numbers (woken_by tables call call.kind) (machine.woken_by g shown k)) s.kinds
    (woken_alike p.about.members p.notes.sessions p.instances numbers tables g call shown call.kind
    s.tied.instance_names.apart s.tied.instances s.tied.waiters s.homes) in
    let end = keeps_shown p.notes.numbering p.slot result params (woken_by tables call call.kind)
    (machine.woken_by g shown shown.kind) s.untold woken in
    record {
      going = shows g shown result params;
      goes = s.goes;
      tied = s.tied;
      keeps = end.keeps;
      alike = record {
        homes = s.homes;
        kinds = s.kinds;
        seen = s.seen;
        areas = s.areas;
        buffers = s.buffers;
        phases = (refl, refl, refl, end.alike);
        flagged = λ _. refl;
      };
      told = λ other is. refl;
    }

-- ---- its job has stopped

-- a call at work is on one of the realm's instances
on_its_instance : (sessions instances : NumberMap ℕ) (call : PendingCall) (own : GroupCall) (call_kind : CallKind)
    (job : Job) → Fits call_kind (Runs job) → HomesAlike sessions instances call own call_kind
    → get instances call.instance ≡ Some own.instance
on_its_instance sessions instances call own kind.Open job fits homes = homes.1
on_its_instance sessions instances call own (kind.Invoke func) job fits homes = homes.1
on_its_instance sessions instances call own kind.Close job fits homes = homes.1
on_its_instance sessions instances call own kind.Settled job fits homes = absurd fits

-- the steps of a job from the machine's on
total_steps : (now done_by_then used : ℕ) → done_by_then ≤ now
    → done_by_then + ((now - done_by_then) + used) ≡ now + used
total_steps now done_by_then used le = omega arith

within : (now done_by_then used most : ℕ) → done_by_then ≤ now → now + used ≤ most → (now - done_by_then) + used ≤ most
within now done_by_then used most le bound = omega arith

-- a job that runs, and the machine's, which it is further than
record OwnRuns (p : Place) (call : PendingCall) (own : GroupCall) (job from : Job) : Type 0 where
  there : OwnThere p call own
  runs : call.phase ≡ Runs job
  own_runs : own.phase ≡ Runs from
  ahead : IsFurther call.steps own.steps job from

-- the machine's stop
record OwnStops (p : Place) (call : PendingCall) (own : GroupCall) (from : Job) (used : ℕ) (why : JobStop) : Type 0 where
  total : ℕ
  sums : own.steps + total ≡ call.steps + used
  stops : Stop from total why
  goes : going_in p.about.most p.group own own.phase
      ≡ Some (stopped p.group (record own { steps = own.steps + total }) why)

own_stops : (p : Place) (call : PendingCall) (own : GroupCall) (job from : Job) (used : ℕ) (why : JobStop)
    → OwnRuns p call own job from → Stop job used why → call.steps + used ≤ p.about.most
    → OwnStops p call own from used why
own_stops p call own job from used why r stop bound =
    let total : ℕ = (call.steps - own.steps) + used in
    let stops : Stop from total why = stop_at-sum from job (call.steps - own.steps) used r.ahead.after ∙ stop in
    let granted : grant_of p.about.most from ≡ Some (Stopped total why) =
    stop-granted from p.about.most total why (within call.steps own.steps used p.about.most r.ahead.more bound) stops in
    record {
      total = total;
      sums = total_steps call.steps own.steps used r.ahead.more;
      stops = stops;
      goes = ap (λ (phase : CallPhase). going_in p.about.most p.group own phase) r.own_runs
          ∙ ap (λ (o : Option Grant). option_and_then (taken_on p.group own) o) granted;
    }

runs_untold : (phase : CallPhase) (job : Job) → phase ≡ Runs job → WasTold phase → ⊥
runs_untold phase job is told = subst WasTold is told

running_none : (p : Place) (call : PendingCall) (own : GroupCall) (job from : Job) → OwnRuns p call own job from
    → kept_at p ≡ None
running_none p call own job from r = untold_none p call own r.there (runs_untold own.phase from r.own_runs)

-- its homes, by the machine's kind
own_homes : (p : Place) (call : PendingCall) (own : GroupCall) → OwnThere p call own
    → HomesAlike p.notes.sessions p.instances call own own.kind
own_homes p call own h =
    subst (λ k. HomesAlike p.notes.sessions p.instances call own k) h.alike.kinds h.alike.homes

running_on : (p : Place) (call : PendingCall) (own : GroupCall) (job from : Job) → OwnRuns p call own job from
    → get p.instances call.instance ≡ Some own.instance
running_on p call own job from r =
    on_its_instance p.notes.sessions p.instances call own own.kind from
    (subst (λ (phase : CallPhase). Fits own.kind phase) r.own_runs
    (r.there.order.fits p.number own r.there.of_number))
    (own_homes p call own r.there)

sessions_of : (p : Place) (call : PendingCall) (own : GroupCall) → OwnThere p call own
    → SessionsGo p.notes.sessions p.instances p.kernel.tables.sessions p.group.sessions
sessions_of p call own h = record { tied = h.tied.sessions; rising = h.rising }

ends_so : (p : Place) (call : PendingCall) (own : GroupCall) (job from : Job) (used : ℕ) (end : End)
    → OwnRuns p call own job from → OwnStops p call own from used (steps.Ends end)
    → Comes p own (after_stop p.kernel.tables (further call used) (steps.Ends end))
ends_so p call own job from used end r s =
    let sessions : NumberMap GroupSession = sessions_ended own.kind p.group.sessions own.session end in
    let P : CallKind → Type 0 = λ k. SessionsGo p.notes.sessions p.instances
    (after_end_of k) sessions in
    let go = subst P (sym r.there.alike.kinds)
    (ended_so p.notes.sessions p.instances p.kernel.tables.sessions p.group.sessions call own own.kind end
    r.there.tied.session_names.apart (own_homes p call own r.there) (sessions_of p call own r.there)) in
    shows_so p (gives_back p.group own sessions end.is_last (given_back end.memory end.objects)) own
    (record own { steps = own.steps + s.total }) (tables_after_end p.kernel.tables (further call used) end)
    (further call used) end.result end.params
    (record {
      untold = running_none p call own job from r;
      tied = gives_back_tied p.about.members (names_at p) p.kernel.slots p.kernel.tables p.group (further call used) own
          (after_end_of call.kind) sessions end.is_last (given_back end.memory end.objects)
          (running_on p call own job from r) go (given_alike p.notes.numbering.in_slots end) r.there.tied;
      homes = r.there.alike.homes;
      kinds = r.there.alike.kinds;
      seen = r.there.alike.seen;
      areas = r.there.alike.areas;
      buffers = r.there.alike.buffers;
      goes = s.goes;
    })
  where
    after_end_of : CallKind → NumberMap Session
    after_end_of k = sessions_after k p.kernel.tables.sessions call.session end.result.result end.context

panics_so : (p : Place) (call : PendingCall) (own : GroupCall) (job from : Job) (used code : ℕ)
    → OwnRuns p call own job from → OwnStops p call own from used (steps.Panics code)
    → Comes p own (after_stop p.kernel.tables (further call used) (steps.Panics code))
panics_so p call own job from used code r s =
    let sessions : NumberMap GroupSession = sessions_panicked own.kind p.group.sessions own.session in
    let P : CallKind → Type 0 = λ k. SessionsGo p.notes.sessions p.instances (after_panic_of k) sessions in
    let go = subst P (sym r.there.alike.kinds)
    (panicked_so p.notes.sessions p.instances p.kernel.tables.sessions p.group.sessions call own own.kind
    r.there.tied.session_names.apart (own_homes p call own r.there) (sessions_of p call own r.there)) in
    shows_so p (gives_back p.group own sessions false killed) own
    (record own { steps = own.steps + s.total }) (tables_after_panic p.kernel.tables (further call used))
    (further call used) (of_tee target_dead) no_params
    (record {
      untold = running_none p call own job from r;
      tied = gives_back_tied p.about.members (names_at p) p.kernel.slots p.kernel.tables p.group (further call used) own
          (after_panic_of call.kind) sessions false killed (running_on p call own job from r) go
          (killed_alike p.notes.numbering.in_slots) r.there.tied;
      homes = r.there.alike.homes;
      kinds = r.there.alike.kinds;
      seen = r.there.alike.seen;
      areas = r.there.alike.areas;
      buffers = r.there.alike.buffers;
      goes = s.goes;
    })
  where
    after_panic_of : CallKind → NumberMap Session
    after_panic_of k = sessions_after_panic k p.kernel.tables.sessions call.session

seen_job : (first second : Job) → CallPhase.Runs first ≡ Runs second → first ≡ second
seen_job first second e = cc

-- a job that asks keeps the flag of its call
asks_flagged : (own : GroupCall) (from left : Job) (total : ℕ) (wanted : Rpc) (payload : List ℕ)
    → own.phase ≡ Runs from → phase_seen own.phase ≡ own.phase → Stop from total (steps.Asks wanted payload left)
    → phase_seen (Asks left wanted payload) ≡ Asks left wanted payload
asks_flagged own from left total wanted payload is flagged stops =
    let seen : HasSeenCancel from = seen_job (with_cancel_seen from) from (sym (ap phase_seen is) ∙ flagged ∙ is) in
    ap (λ (j : Job). Asks j wanted payload) (cancel_stays_seen.asks from left total wanted payload seen stops)

asks_so : (p : Place) (call : PendingCall) (own : GroupCall) (job from : Job) (used : ℕ) (wanted : Rpc)
    (payload : List ℕ) (left : Job) → OwnRuns p call own job from
    → OwnStops p call own from used (steps.Asks wanted payload left)
    → Comes p own (after_stop p.kernel.tables (further call used) (steps.Asks wanted payload left))
asks_so p call own job from used wanted payload left r s =
    let none = running_none p call own job from r in
    record {
      going = stopped p.group (record own { steps = own.steps + s.total }) (steps.Asks wanted payload left);
      goes = s.goes;
      tied = r.there.tied;
      keeps = record { wakes = p.notes.numbering.wakes; is = refl; others = λ at apart. refl; number = refl };
      alike = record {
        homes = r.there.alike.homes;
        kinds = r.there.alike.kinds;
        seen = r.there.alike.seen;
        areas = r.there.alike.areas;
        buffers = r.there.alike.buffers;
        phases = (sym s.sums, refl);
        flagged = λ seen. asks_flagged own from left s.total wanted payload r.own_runs
            (r.there.alike.flagged seen) s.stops;
      };
      told = λ woken is. nobody_kept (kept_at p) none woken is;
    }

stops_so : (p : Place) (call : PendingCall) (own : GroupCall) (job from : Job) (used : ℕ) (why : JobStop)
    → OwnRuns p call own job from → OwnStops p call own from used why
    → Comes p own (after_stop p.kernel.tables (further call used) why)
stops_so p call own job from used (steps.Ends end) r s = ends_so p call own job from used end r s
stops_so p call own job from used (steps.Panics code) r s = panics_so p call own job from used code r s
stops_so p call own job from used (steps.Asks wanted payload left) r s =
    asks_so p call own job from used wanted payload left r s

granted_so : (p : Place) (granted : ℕ) (call : PendingCall) (own : GroupCall) (job from : Job) (grant : Grant)
    → OwnRuns p call own job from → grant_of granted job ≡ Some grant
    → (leaving_of p.slot (after_grant p.kernel.tables call granted grant).call ≡ Interrupted → ⊥)
    → (after_grant p.kernel.tables call granted grant).call.steps ≤ p.about.most
    → Comes p own (after_grant p.kernel.tables call granted grant)
granted_so p granted call own job from (Left left) r is out bound = absurd (out refl)
granted_so p granted call own job from (Stopped used why) r is out bound =
    let stop = granted-IsGrant job granted (Stopped used why) is in
    let steps_bound : call.steps + used ≤ p.about.most =
    subst (λ n. n ≤ p.about.most) (stop_steps p.kernel.tables (further call used) why) bound in
    stops_so p call own job from used why r (own_stops p call own job from used why r stop.1 steps_bound)

-- ---- by its phase

progress_is : (P : Progress → Type 0) (found progress : Progress) → Some found ≡ Some progress → P found → P progress
progress_is P found progress e holds = let same : found ≡ progress = cc in subst P same holds

-- as it is
abbrev unchanged : Place → PendingCall → Progress
unchanged p call = record { call = call; tables = p.kernel.tables }

-- a call that asks or waits stays as it is
plain_so : (p : Place) (call : PendingCall) (own : GroupCall) → OwnThere p call own
    → wake_kept p.notes.numbering p.slot (wake_of call.phase) ≡ None → wake_of own.phase ≡ None → (IsTold own → ⊥)
    → going_in p.about.most p.group own own.phase ≡ Some (record { group = p.group; call = own })
    → Comes p own (unchanged p call)
plain_so p call own h nobody no_own untold goes = record {
  going = record { group = p.group; call = own };
  goes = goes;
  tied = h.tied;
  keeps = record {
    wakes = p.notes.numbering.wakes;
    is = ap (λ (o : Option ℕ). with_wake p.notes.numbering p.slot o) nobody;
    others = λ at apart. refl;
    number = nobody ∙ sym no_own;
  };
  alike = h.alike;
  told = λ woken is. nobody_kept (kept_at p) (untold_none p call own h untold) woken is;
}

-- one whose result was told stays too
told_so : (p : Place) (call : PendingCall) (own : GroupCall) (result answer : CallResult) (params left : CopiedParams)
    (wakes woken : Option ℕ) → OwnThere p call own → call.phase ≡ Ends result params true wakes
    → own.phase ≡ Ends answer left true woken → result ≡ answer → params ≡ left → WakesAlike (kept_at p) wakes woken
    → Comes p own (unchanged p call)
told_so p call own result answer params left wakes woken h is own_is results leaves alike =
    let end = keeps_told p.notes.numbering p.slot result params wakes woken alike in
    record {
      going = record { group = p.group; call = own };
      goes = ap (λ (phase : CallPhase). going_in p.about.most p.group own phase) own_is;
      tied = h.tied;
      keeps = record {
        wakes = end.keeps.wakes;
        is = ap (λ (phase : CallPhase). with_wake p.notes.numbering p.slot (wake_kept p.notes.numbering p.slot (wake_of phase))) is
            ∙ end.keeps.is;
        others = end.keeps.others;
        number = ap (λ (phase : CallPhase). wake_kept p.notes.numbering p.slot (wake_of phase)) is ∙ end.keeps.number
            ∙ sym (ap (λ (phase : CallPhase). wake_of phase) own_is);
      };
      alike = record {
        homes = h.alike.homes;
        kinds = h.alike.kinds;
        seen = h.alike.seen;
        areas = h.alike.areas;
        buffers = h.alike.buffers;
        phases =
            subst (λ (phase : CallPhase). PhasesAlike (get end.keeps.wakes p.slot) call.steps own.steps phase own.phase)
            (sym is)
            (subst (λ (phase : CallPhase). PhasesAlike (get end.keeps.wakes p.slot) call.steps own.steps
            (Ends result params true wakes) phase) (sym own_is)
            (results, leaves, refl, end.alike));
        flagged = h.alike.flagged;
      };
      told = λ other kept. subst WasTold (sym own_is) refl;
    }

-- and one that ends without having run shows its result
unrun_ends : (p : Place) (call : PendingCall) (own : GroupCall) (result answer : CallResult)
    (params left : CopiedParams) (woken : Option ℕ) → OwnThere p call own
    → own.phase ≡ Ends answer left false woken → result ≡ answer → params ≡ left
    → Comes p own (shows_result (tables_unrun p.kernel.tables call) call result params)
unrun_ends p call own result answer params left woken h own_is results leaves =
    let sessions : NumberMap GroupSession = machine.sessions_unrun own.kind p.group.sessions own.session in
    let P : CallKind → Type 0 = λ k. SessionsGo p.notes.sessions p.instances
    (kept_sessions.sessions_unrun k p.kernel.tables.sessions call.session) sessions in
    let go = subst P (sym h.alike.kinds)
    (unrun_so p.notes.sessions p.instances p.kernel.tables.sessions p.group.sessions call own own.kind
    h.tied.session_names.apart (own_homes p call own h) (sessions_of p call own h)) in
    let g : Group = record p.group { sessions = sessions } in
    shows_so p g own own (tables_unrun p.kernel.tables call) call result params (record {
      untold = untold_none p call own h (λ told. not_told (subst WasTold own_is told));
      tied = tables_change p.about.members (names_at p) p.kernel.slots p.kernel.tables (tables_unrun p.kernel.tables call)
          p.group sessions p.group.instance p.group.waiting h.tied go.tied h.tied.instances h.tied.waiters refl refl;
      homes = h.alike.homes;
      kinds = h.alike.kinds;
      seen = h.alike.seen;
      areas = h.alike.areas;
      buffers = h.alike.buffers;
      goes = ap (λ (phase : CallPhase). going_in p.about.most p.group own phase) own_is
          ∙ ap (λ (r : CallResult). Some (shows g own r left)) (sym results)
          ∙ ap (λ (c : CopiedParams). Some (shows g own result c)) (sym leaves);
    })
  where
    not_told : false ≡ true → ⊥
    not_told e = cc

by_phase : (p : Place) (granted : ℕ) (call : PendingCall) (own : GroupCall) (progress : Progress)
    (phase own_phase : CallPhase) → OwnThere p call own → call.phase ≡ phase → own.phase ≡ own_phase
    → PhasesAlike (kept_at p) call.steps own.steps phase own_phase
    → progress_in p.kernel.tables call granted phase ≡ Some progress
    → (leaving_of p.slot progress.call ≡ Interrupted → ⊥) → progress.call.steps ≤ p.about.most
    → Comes p own progress
by_phase p granted call own progress (Runs job) (Runs from) h is own_is alike e out bound =
    let found = option_map_some (after_grant p.kernel.tables call granted) (grant_of granted job) progress e in
    let P : Progress → Type 0 = λ q. (leaving_of p.slot q.call ≡ Interrupted → ⊥) → q.call.steps ≤ p.about.most
    → Comes p own q in
    subst P found.2
    (granted_so p granted call own job from found.0
    (record { there = h; runs = is; own_runs = own_is; ahead = alike }) found.1) out bound
by_phase p granted call own progress (Asks job wanted payload) (Asks from asked bytes) h is own_is alike e out bound =
    progress_is (Comes p own) (unchanged p call) progress e
    (plain_so p call own h
    (ap (λ (phase : CallPhase). wake_kept p.notes.numbering p.slot (wake_of phase)) is)
    (ap (λ (phase : CallPhase). wake_of phase) own_is) (λ told. subst WasTold own_is told)
    (ap (λ (phase : CallPhase). going_in p.about.most p.group own phase) own_is))
by_phase p granted call own progress (Waits params) (Waits copied) h is own_is alike e out bound =
    progress_is (Comes p own) (unchanged p call) progress e
    (plain_so p call own h
    (ap (λ (phase : CallPhase). wake_kept p.notes.numbering p.slot (wake_of phase)) is)
    (ap (λ (phase : CallPhase). wake_of phase) own_is) (λ told. subst WasTold own_is told)
    (ap (λ (phase : CallPhase). going_in p.about.most p.group own phase) own_is))
by_phase p granted call own progress (Ends result params true wakes) (Ends answer left true woken) h is own_is alike e
    out bound =
    progress_is (Comes p own) (unchanged p call) progress e
    (told_so p call own result answer params left wakes woken h is own_is alike.0 alike.1 alike.3)
by_phase p granted call own progress (Ends result params false wakes) (Ends answer left false woken) h is own_is alike e
    out bound =
    progress_is (Comes p own) (shows_result (tables_unrun p.kernel.tables call) call result params) progress e
    (unrun_ends p call own result answer params left woken h own_is alike.0 alike.1)
by_phase p granted call own progress (Ends result params true wakes) (Ends answer left false woken) h is own_is alike e
    out bound =
    absurd (differ alike.2)
  where
    differ : true ≡ false → ⊥
    differ same = cc
by_phase p granted call own progress (Ends result params false wakes) (Ends answer left true woken) h is own_is alike e
    out bound =
    absurd (differ alike.2)
  where
    differ : false ≡ true → ⊥
    differ same = cc
by_phase p granted call own progress (Runs job) (Asks from asked bytes) h is own_is alike e out bound = absurd alike
by_phase p granted call own progress (Runs job) (Waits copied) h is own_is alike e out bound = absurd alike
by_phase p granted call own progress (Runs job) (Ends answer left shown woken) h is own_is alike e out bound =
    absurd alike
by_phase p granted call own progress (Asks job wanted payload) (Runs from) h is own_is alike e out bound = absurd alike
by_phase p granted call own progress (Asks job wanted payload) (Waits copied) h is own_is alike e out bound =
    absurd alike
by_phase p granted call own progress (Asks job wanted payload) (Ends answer left shown woken) h is own_is alike e out
    bound = absurd alike
by_phase p granted call own progress (Waits params) (Runs from) h is own_is alike e out bound = absurd alike
by_phase p granted call own progress (Waits params) (Asks from asked bytes) h is own_is alike e out bound = absurd alike
by_phase p granted call own progress (Waits params) (Ends answer left shown woken) h is own_is alike e out bound =
    absurd alike
by_phase p granted call own progress (Ends result params told wakes) (Runs from) h is own_is alike e out bound =
    absurd alike
by_phase p granted call own progress (Ends result params told wakes) (Asks from asked bytes) h is own_is alike e out
    bound = absurd alike
by_phase p granted call own progress (Ends result params told wakes) (Waits copied) h is own_is alike e out bound =
    absurd alike

-- what the call comes to, other than interrupted
pub comes_to : (p : Place) (granted : ℕ) (call : PendingCall) (own : GroupCall) (progress : Progress)
    → OwnThere p call own → progress_in p.kernel.tables call granted call.phase ≡ Some progress
    → (leaving_of p.slot progress.call ≡ Interrupted → ⊥) → progress.call.steps ≤ p.about.most
    → Comes p own progress
comes_to p granted call own progress h e out bound =
    by_phase p granted call own progress call.phase own.phase h refl refl h.alike.phases e out bound
