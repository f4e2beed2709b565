-- What a resume makes of a call of the realm is what it makes of the machine's call.
use Rattle.std.proofs.Common.{◌≡◌, ℕ, Bool, true, false, not, List, [], ◌∷◌, Option, Some, None, refl, ap, subst, sym}
use Rattle.std.proofs.Common.{◌∙◌}
use Rattle.std.specs.Prelude.{◌||◌, ◌&&◌, IsSome, if◌then◌else◌}
use Rattle.std.specs.Option.{is_none, option_map, option_map_or, option_and_then}
use Rattle.base.specs.NumberMap.{NumberMap, IsRising-remove, get, insert, remove}
use Rattle.base.proofs.MapLemmas.{All-get}
use Rattle.job_model.specs.Beginning.{Program, begun_job}
use Rattle.job_model.specs.declared.call_kind.CallKind.{CallKind}
use Rattle.job_model.specs.declared.call_kind.CallKind.TheVariants as kind
use Rattle.job_model.specs.declared.entry_point.EntryPoint.{EntryPoint}
use Rattle.job_model.specs.declared.entry_point.EntryPoint.TheVariants as point
use Rattle.job_model.specs.Flag.{HasSeenCancel}
use Rattle.job_model.specs.Job.{Job, idle_job, of_tee}
use Rattle.job_model.specs.Owner.{owner_of}
use Rattle.job_model.specs.Point.{no_params}
use Rattle.rpc_msgs.specs.declared.rpc.Rpc.{Rpc}
use Rattle.session_table.specs.declared.session.Session.{Session}
use Rattle.ta_params.specs.declared.call_result.CallResult.{CallResult}
use Rattle.ta_params.specs.declared.copied_params.CopiedParams.{CopiedParams}
use Rattle.ta_params.specs.declared.login.Login.{Login}
use Rattle.kernel_model.specs.Application.{Application, Booted, program_of, uuid_of}
use Rattle.kernel_model.specs.Begin.{begins_on, closing_points, has_pages_for, opens_new}
use Rattle.kernel_model.specs.Begin.{session_job, with_instance}
use Rattle.kernel_model.specs.Codes.{bad_parameters, out_of_memory, target_dead}
use Rattle.kernel_model.specs.Given.{Given}
use Rattle.kernel_model.specs.Instances.{app_of, destroy_after, destroy_of, held_by, is_held, keeps_alive}
use Rattle.kernel_model.specs.Instances.{made_for, program_on}
use Rattle.kernel_model.specs.Kernel.{Asks, CallPhase, Ends, Instance, PendingCall, Progress, Runs, Tables}
use Rattle.kernel_model.specs.Kernel.{Waits}
use Rattle.kernel_model.specs.Resume.{Resumed, begins, begins_in, begins_open, ends_with, goes_on, is_close}
use Rattle.kernel_model.specs.Resume.{is_without_buffer, onward_in, onward_of, phase_seen, phase_when_given, resumed_call}
use Rattle.kernel_model.specs.Resume.{resumes_waiting, sees, sleeps_on, still_wakes, tested_again, who_resumes}
use Rattle.kernel_model.specs.Resume.{without_waiter}
use Rattle.kernel_model.specs.SoundCalls.{is_in_session}
use Rattle.own_model.proofs.InOrder.{back_works}
use Rattle.own_model.proofs.OwnSeen.{as_far}
use Rattle.own_model.proofs.OwnWakes.{held_alike}
use Rattle.own_model.specs.InOrder.{IsAtWork}
use Rattle.own_model.specs.Own.{input_of}
use Rattle.own_model.specs.Solo.{is_no_buffer, phase_back, wake_left}
use Rattle.own_model.specs.Tied.{FoundAlike, InstancesAlike, IsFurther, PhasesAlike, WakesAlike, WasTold}
use Rattle.group_model.specs.Group.{Group, GroupCall, GroupSession, GroupWaiter, Waiting, comes_back, comes_back_in}
use Rattle.group_model.specs.Group.{gives_up, instance_at, made, opens_again, retests, start_again, waits_on}
use Rattle.group_model.specs.Group as machine
use Rattle.realm_model.specs.Reading.{Watched}
use Rattle.group_model.specs.InOrder.{Fits}
use Rattle.realm_model.specs.Laws.{IsRealm}
use Rattle.group_model.specs.Tied.{AreTiedSessions, CallsAlike, HomesAlike}
use Rattle.realm_model.specs.Tied.{AreTiedInstances, AreTiedWaiters, IsOfRealm}
use Rattle.group_model.specs.Tied.{IsTold, SessionsAlike, SessionsFoundAlike, found_at}
use Rattle.group_model.proofs.Alike.{opened_same, sessions_removed}
use Rattle.group_model.proofs.Ends.{NoOther}
use Rattle.realm_model.proofs.Ends.{instance_put}
use Rattle.group_model.proofs.Given.{IsSameCall, given_alike, given_same, own_given}
use Rattle.realm_model.proofs.LeftLine.{line_without}
use Rattle.realm_model.proofs.LeftLine.{leaves_line}
use Rattle.realm_model.proofs.Progress.{OwnThere, Place, kept_at}
use Rattle.realm_model.proofs.Room.{IsReady}
use Rattle.own_model.proofs.OwnOnward.{alike_itself, asking_flagged, begins_flagged, given_flagged, same_given, wakes_alike, without_alike}

-- ---- what is known of the call

-- a call that comes back, in a kernel that a legal history comes to
pub record Returns (boot : Booted) (p : Place) (call : PendingCall) (own : GroupCall) : Type 0 where
  pub there : OwnThere p call own
  pub shares : IsRealm boot p.about.members
  pub key : p.about.key ≡ boot.key
  -- one that waits is of the application, and no other instance of that is kept
  pub of_app : (params : CopiedParams) → call.phase ≡ Waits params → call.uuid ≡ Some (uuid_of p.about.members.app)
  pub alone : (params : CopiedParams) → call.phase ≡ Waits params →
      NoOther p.instances p.notes.numbering.in_slots p.kernel.tables.instances call.instance
  -- a session of an invoke or a close is on its instance, and that of an open that waits isn't opened
  pub on_instance : (session : Session) → is_in_session call.kind ≡ true →
      get p.kernel.tables.sessions call.session ≡ Some session → session.instance ≡ call.instance
  pub unopened : (params : CopiedParams) (session : Session) → call.kind ≡ kind.Open → call.phase ≡ Waits params →
      get p.kernel.tables.sessions call.session ≡ Some session → session.opened ≡ false

-- ---- jobs

-- what a job begins with; of the instance that it finds its memory and objects
record Beginning : Type 0 where
  uuid : List ℕ
  key : List ℕ
  program : Option Program
  found : Instance
  seen : Bool
  login : Login
  context : ℕ
  params : CopiedParams
  points : List EntryPoint

abbrev job_from : Beginning → Job
job_from b =
    begun_job (record { program = b.program; memory = b.found.memory; seen = b.seen })
    (idle_job (owner_of b.uuid b.key) b.login b.context b.found.objects b.params) b.points

record BeginsAlike (a b : Beginning) : Type 0 where
  uuid : a.uuid ≡ b.uuid
  key : a.key ≡ b.key
  program : a.program ≡ b.program
  memory : a.found.memory ≡ b.found.memory
  seen : a.seen ≡ b.seen
  login : a.login ≡ b.login
  context : a.context ≡ b.context
  objects : a.found.objects ≡ b.found.objects
  params : a.params ≡ b.params
  points : a.points ≡ b.points

same_job : (a b : Beginning) → BeginsAlike a b → job_from a ≡ job_from b
same_job a b same =
    ap (λ (x : List ℕ). job_from (record a { uuid = x })) same.uuid
    ∙ ap (λ (x : List ℕ). job_from (record a { uuid = b.uuid; key = x })) same.key
    ∙ ap (λ (x : Option Program). job_from (record a { uuid = b.uuid; key = b.key; program = x })) same.program
    ∙ ap (λ (x : Bool). job_from (record b {
      found = a.found;
      seen = x;
      login = a.login;
      context = a.context;
      params = a.params;
      points = a.points;
    })) same.seen
    ∙ ap (λ (x : Login). job_from (record b {
      found = a.found;
      login = x;
      context = a.context;
      params = a.params;
      points = a.points;
    })) same.login
    ∙ ap (λ (x : ℕ). job_from (record b { found = a.found; context = x; params = a.params; points = a.points })) same.context
    ∙ ap (λ (x : CopiedParams). job_from (record b { found = a.found; params = x; points = a.points })) same.params
    ∙ ap (λ (x : List EntryPoint). job_from (record b { found = a.found; points = x })) same.points
    ∙ ap (λ (x : List ℕ). begun_job (record { program = b.program; memory = x; seen = b.seen })
    (idle_job (owner_of b.uuid b.key) b.login b.context a.found.objects b.params) b.points) same.memory
    ∙ ap (λ x. begun_job (record { program = b.program; memory = b.found.memory; seen = b.seen })
    (idle_job (owner_of b.uuid b.key) b.login b.context x b.params) b.points) same.objects

-- a job that began with the flag has it
flagged_from : (b : Beginning) → b.seen ≡ true → phase_seen (Runs (job_from b)) ≡ Runs (job_from b)
flagged_from b seen =
    let idle : Job = idle_job (owner_of b.uuid b.key) b.login b.context b.found.objects b.params in
    ap (λ (j : Job). Runs j)
    (subst (λ t. HasSeenCancel (begun_job (record { program = b.program; memory = b.found.memory; seen = t }) idle b.points))
    (sym seen) (begins_flagged b.program b.found.memory idle b.points refl))

-- ---- what the call comes to

-- the tables have what the machine has then, with as many numbers given
pub record TablesAlike (p : Place) (tables : Tables) (instance : Option (ℕ × Instance))
    (waiting : List GroupWaiter) : Type 0 where
  pub sessions : AreTiedSessions p.notes.sessions p.instances tables.sessions p.group.sessions
  pub instances : AreTiedInstances p.about.members p.instances p.notes.numbering.in_slots tables.instances instance
  pub waiters : AreTiedWaiters p.about.members p.instances p.notes.numbering.in_slots tables.waiters waiting
  pub next_session : tables.next_session ≡ p.kernel.tables.next_session
  pub next_instance : tables.next_instance ≡ p.kernel.tables.next_instance

-- the call comes to this, and the machine to that: only its instance, its line and this call change
pub record ComesBack (p : Place) (own : GroupCall) (calls : NumberMap GroupCall) (progress : Progress)
    (result : Option Group) : Type 0 where
  pub instance : Option (ℕ × Instance)
  pub waiting : List GroupWaiter
  pub last : GroupCall
  pub is : result
      ≡ Some (record p.group { instance = instance; waiting = waiting; calls = insert calls p.number last })
  pub tables : TablesAlike p progress.tables instance waiting
  pub alike : CallsAlike p.notes.sessions p.instances (kept_at p) progress.call last
  pub told : IsTold own → IsTold last

-- whichever way a test goes
either_back : (p : Place) (own : GroupCall) (calls : NumberMap GroupCall) (test own_test : Bool)
    (first second : Progress) (result other : Option Group) → test ≡ own_test
    → ComesBack p own calls first result → ComesBack p own calls second other
    → ComesBack p own calls (if test then first else second) (if own_test then result else other)
either_back p own calls true true first second result other same on_first on_second = on_first
either_back p own calls false false first second result other same on_first on_second = on_second
either_back p own calls true false first second result other same on_first on_second = absurd cc
either_back p own calls false true first second result other same on_first on_second = absurd cc

-- in another phase
in_phase : (sessions instances : NumberMap ℕ) (kept : Option ℕ) (call : PendingCall) (own : GroupCall)
    (phase own_phase : CallPhase) → CallsAlike sessions instances kept call own
    → PhasesAlike kept call.steps own.steps phase own_phase → (own.seen ≡ true → phase_seen own_phase ≡ own_phase)
    → CallsAlike sessions instances kept (record call { phase = phase }) (record own { phase = own_phase })
in_phase sessions instances kept call own phase own_phase alike phases flagged = record {
  homes = alike.homes;
  kinds = alike.kinds;
  seen = alike.seen;
  areas = alike.areas;
  buffers = alike.buffers;
  phases = phases;
  flagged = flagged;
}

-- the homes of a call that wasn't settled as it came in
pub homes_of : (sessions instances : NumberMap ℕ) (call : PendingCall) (own : GroupCall) (call_kind : CallKind)
    (params : CopiedParams) → Fits call_kind (Waits params) → HomesAlike sessions instances call own call_kind
    → (get sessions call.session ≡ Some own.session) × (get instances call.instance ≡ Some own.instance)
homes_of sessions instances call own kind.Open params fits homes = homes
homes_of sessions instances call own (kind.Invoke func) params fits homes = homes
homes_of sessions instances call own kind.Close params fits homes = homes
homes_of sessions instances call own kind.Settled params fits homes = absurd fits

-- a call waits exactly where it did before it saw its cancellation
waited : (call : PendingCall) (params : CopiedParams) → (sees call).phase ≡ Waits params → call.phase ≡ Waits params
waited call params is = by_mark call.marked is
  where
    by_phase : (phase : CallPhase) → phase_seen phase ≡ Waits params → phase ≡ Waits params
    by_phase (Runs job) e = absurd cc
    by_phase (Asks job wanted payload) e = absurd cc
    by_phase (Waits copied) e = e
    by_phase (Ends result left told wakes) e = absurd cc

    by_mark : (marked : Bool)
        → (if marked then record call { seen = true; phase = phase_seen call.phase } else call).phase ≡ Waits params
        → call.phase ≡ Waits params
    by_mark true e = by_phase call.phase e
    by_mark false e = e

module _ (boot : Booted) (w : Watched) (p : Place) (call : PendingCall) (own : GroupCall) (given : Given)
    (room_is : has_pages_for w.boot w.entering.kernel.tables p.about.members.app ≡ has_pages_for boot p.kernel.tables p.about.members.app)
    (f : Returns boot p call own) (s : IsReady w p call own) where
  abbrev resumed : Resumed
  resumed = resumed_call boot p.kernel.tables p.slot call given

  abbrev own_now : GroupCall
  own_now = own_given given s.now

  abbrev ready : Group
  ready = record p.group { calls = s.calls }

  abbrev Back : Progress → Option Group → Type 0
  Back progress result = ComesBack p own s.calls progress result

  same : IsSameCall resumed.call call
  same = given_same given call

  now_alike : CallsAlike p.notes.sessions p.instances (kept_at p) resumed.call own_now
  now_alike = given_alike p.notes.sessions p.instances (kept_at p) given (sees call) s.now s.alike

  same_tables : TablesAlike p p.kernel.tables p.group.instance p.group.waiting
  same_tables = record {
    sessions = f.there.tied.sessions;
    instances = f.there.tied.instances;
    waiters = f.there.tied.waiters;
    next_session = refl;
    next_instance = refl;
  }

  -- it goes on in another phase, and nothing else changes
  goes_on_so : (phase own_phase : CallPhase)
      → PhasesAlike (kept_at p) resumed.call.steps own_now.steps phase own_phase
      → (own_now.seen ≡ true → phase_seen own_phase ≡ own_phase) → (WasTold s.now.phase → WasTold own_phase)
      → Back (goes_on resumed phase) (Some (machine.with_call ready p.number (record own_now { phase = own_phase })))
  goes_on_so phase own_phase phases flagged told = record {
    instance = p.group.instance;
    waiting = p.group.waiting;
    last = record own_now { phase = own_phase };
    is = refl;
    tables = same_tables;
    alike = in_phase p.notes.sessions p.instances (kept_at p) resumed.call own_now phase own_phase now_alike phases
        flagged;
    told = λ was. told (s.told was);
  }

  -- ---- a call that waits

  module _ (params copied : CopiedParams) (waits : resumed.call.phase ≡ Waits params)
      (own_waits : own_now.phase ≡ Waits copied) (waited_so : call.phase ≡ Waits params)
      (fits : Fits resumed.call.kind (Waits params)) where
    untold : IsTold own → ⊥
    untold was = subst WasTold own_waits (s.told was)

    phases_are : PhasesAlike (kept_at p) resumed.call.steps own_now.steps (Waits params) (Waits copied)
    phases_are =
        subst (λ (q : CallPhase). PhasesAlike (kept_at p) resumed.call.steps own_now.steps (Waits params) q) own_waits
        (subst (λ (q : CallPhase). PhasesAlike (kept_at p) resumed.call.steps own_now.steps q own_now.phase) waits
        now_alike.phases)

    homes : (get p.notes.sessions resumed.call.session ≡ Some own_now.session)
        × (get p.instances resumed.call.instance ≡ Some own_now.instance)
    homes = homes_of p.notes.sessions p.instances resumed.call own_now resumed.call.kind params fits now_alike.homes

    abbrev waiting_call : Waiting
    waiting_call = record { number = p.number; call = own_now; params = copied; input = input_of given }

    -- the tables and the machine's line without it
    leaves : (tables : Tables) (instance : Option (ℕ × Instance)) → TablesAlike p tables instance p.group.waiting
        → TablesAlike p (without_waiter tables p.slot) instance (line_without p.group.waiting p.number)
    leaves tables instance alike = record {
      sessions = alike.sessions;
      instances = alike.instances;
      waiters = leaves_line p.about.members p.notes.numbering.in_slots p.instances p.slot p.number tables.waiters
          p.group.waiting f.there.has f.there.tied.calls.apart alike.waiters;
      next_session = alike.next_session;
      next_instance = alike.next_instance;
    }

    gives_up_so : (code : ℕ) → Back (ends_with resumed code) (Some (gives_up ready waiting_call code))
    gives_up_so code = record {
      instance = p.group.instance;
      waiting = line_without p.group.waiting p.number;
      last = record own_now { phase = Ends (of_tee code) no_params false None };
      is = refl;
      tables = leaves p.kernel.tables p.group.instance same_tables;
      alike = in_phase p.notes.sessions p.instances (kept_at p) resumed.call own_now
          (Ends (of_tee code) no_params false None) (Ends (of_tee code) no_params false None) now_alike
          (refl, refl, refl, tt) (λ _. refl);
      told = λ was. absurd (untold was);
    }

    same_phase : (phase : CallPhase) → own_now.phase ≡ phase → record own_now { phase = phase } ≡ own_now
    same_phase phase is = ap (λ (q : CallPhase). record own_now { phase = q }) (sym is)

    sleeps_so : Back (sleeps_on resumed params) (Some (waits_on ready waiting_call))
    sleeps_so =
        let stays : Back (goes_on resumed (Waits params)) (Some (machine.with_call ready p.number own_now)) =
        subst (λ (o : GroupCall). Back (goes_on resumed (Waits params)) (Some (machine.with_call ready p.number o)))
        (same_phase (Waits copied) own_waits)
        (goes_on_so (Waits params) (Waits copied) phases_are (λ _. refl) (λ told. subst WasTold own_waits told)) in
        by_buffer (is_without_buffer given) (is_no_buffer (input_of given)) (without_alike given) stays
      where
        by_buffer : (test own_test : Bool) → test ≡ own_test
            → Back (goes_on resumed (Waits params)) (Some (machine.with_call ready p.number own_now))
            → Back (if test then ends_with resumed out_of_memory else goes_on resumed (Waits params))
            (Some (if own_test then gives_up ready waiting_call out_of_memory
            else machine.with_call ready p.number own_now))
        by_buffer true true same stays = gives_up_so out_of_memory
        by_buffer false false same stays = stays
        by_buffer true false same stays = absurd cc
        by_buffer false true same stays = absurd cc

    -- ---- one that begins

    further_alike : (job other : Job) → job ≡ other
        → PhasesAlike (kept_at p) resumed.call.steps own_now.steps (Runs job) (Runs other)
    further_alike job other same_one =
        subst (λ n. IsFurther resumed.call.steps n job other) phases_are.0
        (subst (λ (j : Job). IsFurther resumed.call.steps resumed.call.steps job j) same_one
        (as_far resumed.call.steps job))

    -- on an instance of this number, which it holds then
    begins_so : (number : ℕ) (instance own_instance : Instance) (a b : Beginning)
        → get p.instances number ≡ Some own_now.instance
        → NoOther p.instances p.notes.numbering.in_slots p.kernel.tables.instances number
        → InstancesAlike p.notes.numbering.in_slots instance own_instance
        → IsOfRealm p.about.members p.instances number instance.uuid → BeginsAlike a b → b.seen ≡ own_now.seen
        → Back (begins resumed (record {
          tables = with_instance p.kernel.tables number instance;
          instance = number;
          job = job_from a;
        }))
        (Some (machine.goes_on waiting_call (record {
          group = machine.with_instance ready own_now.instance own_instance;
          instance = own_now.instance;
          job = job_from b;
        })))
    begins_so number instance own_instance a b named alone alike of_app begin seen = record {
      instance = Some (own_now.instance, own_instance);
      waiting = line_without p.group.waiting p.number;
      last = record own_now { phase = Runs (job_from b) };
      is = refl;
      tables = leaves (with_instance p.kernel.tables number instance) (Some (own_now.instance, own_instance)) (record {
        sessions = same_tables.sessions;
        instances = instance_put p.about.members p.instances p.notes.numbering.in_slots p.kernel.tables.instances
            p.group.instance number own_now.instance instance own_instance f.there.tied.instance_names.apart named alone
            alike of_app f.there.tied.instances;
        waiters = same_tables.waiters;
        next_session = refl;
        next_instance = refl;
      });
      alike = in_phase p.notes.sessions p.instances (kept_at p) resumed.call own_now (Runs (job_from a))
          (Runs (job_from b)) now_alike (further_alike (job_from a) (job_from b) (same_job a b begin))
          (λ own_seen. flagged_from b (seen ∙ own_seen));
      told = λ was. absurd (untold was);
    }

    -- what a call that begins on a kept instance finds
    module _ (session : Session) (own_session : GroupSession) (sessions : SessionsAlike p.instances session own_session)
        (found : get p.kernel.tables.sessions resumed.call.session ≡ Some session) where
      -- the machine has the kernel's key
      key_is : boot.key ≡ p.group.key
      key_is = sym (f.there.tied.key ∙ f.key)

      found_session : get p.kernel.tables.sessions call.session ≡ Some session
      found_session = ap (λ n. get p.kernel.tables.sessions n) (sym same.session) ∙ found

      named_instance : get p.instances call.instance ≡ Some own_now.instance
      named_instance = ap (λ n. get p.instances n) (sym same.instance) ∙ homes.1

      alone_there : NoOther p.instances p.notes.numbering.in_slots p.kernel.tables.instances resumed.call.instance
      alone_there =
          subst (λ n. NoOther p.instances p.notes.numbering.in_slots p.kernel.tables.instances n) (sym same.instance)
          (f.alone params waited_so)

      -- an open that begins has no word yet
      no_context : resumed.call.kind ≡ kind.Open → own_session.opened ≡ false → own_session.context ≡ 0
          → 0 ≡ own_session.context
      no_context is unopened none = sym none

      -- destroy is behind it where it is behind the machine's
      destroys : (number : ℕ) → get p.instances number ≡ Some own_now.instance
          → destroy_after p.about.members.app p.kernel.tables.sessions number
          ≡ machine.destroy_after p.about.members.app p.group.sessions own_now.instance
      destroys number named =
          ap (λ b. if b || keeps_alive p.about.members.app then [] else point.Destroy ∷ [])
          (opened_same p.notes.sessions p.instances p.kernel.tables.sessions p.group.sessions number own_now.instance
          f.there.rising f.there.tied.instance_names.apart named f.there.tied.sessions)

      closes : (number : ℕ) → get p.instances number ≡ Some own_now.instance
          → destroy_after p.about.members.app (remove p.kernel.tables.sessions resumed.call.session) number
          ≡ machine.destroy_after p.about.members.app (remove p.group.sessions own_now.session) own_now.instance
      closes number named =
          ap (λ b. if b || keeps_alive p.about.members.app then [] else point.Destroy ∷ [])
          (opened_same p.notes.sessions p.instances (remove p.kernel.tables.sessions resumed.call.session)
          (remove p.group.sessions own_now.session) number own_now.instance
          (IsRising-remove p.kernel.tables.sessions resumed.call.session f.there.rising)
          f.there.tied.instance_names.apart named
          (sessions_removed p.notes.sessions p.instances p.kernel.tables.sessions p.group.sessions resumed.call.session
          own_now.session f.there.tied.session_names.apart homes.0 f.there.tied.sessions))

      -- the context of an open's session, as the machine has it
      module _ (context_is : resumed.call.kind ≡ kind.Open → own_session.context ≡ 0) where
        of_the_app : option_and_then (app_of boot) resumed.call.uuid ≡ Some p.about.members.app
        of_the_app =
            ap (λ (o : Option (List ℕ)). option_and_then (app_of boot) o) (same.uuid ∙ f.of_app params waited_so)
            ∙ f.shares.of_boot

        -- ---- on the kept instance

        module _ (kept held : Instance) (there : get p.kernel.tables.instances resumed.call.instance ≡ Some kept)
            (own_there : found_at p.group.instance own_now.instance ≡ Some held)
            (instances : InstancesAlike p.notes.numbering.in_slots kept held) where
          of_group : IsOfRealm p.about.members p.instances resumed.call.instance kept.uuid
          of_group = All-get (λ (one : ℕ × Instance). IsOfRealm p.about.members p.instances one.0 one.1.uuid)
              p.kernel.tables.instances resumed.call.instance kept f.there.tied.instances.of_app there

          uuid_is : kept.uuid ≡ uuid_of p.about.members.app
          uuid_is = of_group.of_app (subst (λ (o : Option ℕ). IsSome o) (sym homes.1) refl)

          -- of a call in this session, with these entry points
          abbrev kernel_begin : List EntryPoint → Beginning
          kernel_begin points = record {
            uuid = kept.uuid;
            key = boot.key;
            program = program_on boot kept;
            found = kept;
            seen = resumed.call.seen;
            login = session.login;
            context = session.context;
            params = params;
            points = points;
          }

          abbrev own_begin : List EntryPoint → Beginning
          own_begin points = record {
            uuid = uuid_of p.about.members.app;
            key = p.group.key;
            program = if held.dead then None else Some (program_of p.about.members.app);
            found = held;
            seen = own_now.seen;
            login = own_session.login;
            context = own_session.context;
            params = copied;
            points = points;
          }

          program_alike : program_on boot kept ≡ (if held.dead then None else Some (program_of p.about.members.app))
          program_alike =
              ap (λ b. if b then None else option_map program_of (app_of boot kept.uuid)) instances.dead
              ∙ ap (λ (uuid : List ℕ). if held.dead then None else option_map program_of (app_of boot uuid)) uuid_is
              ∙ ap (λ (a : Option Application). if held.dead then None else option_map program_of a)
              f.shares.of_boot

          begins_alike : (points own_points : List EntryPoint) → points ≡ own_points
              → BeginsAlike (kernel_begin points) (own_begin own_points)
          begins_alike points own_points are = record {
            uuid = uuid_is;
            key = key_is;
            program = program_alike;
            memory = instances.memory;
            seen = now_alike.seen;
            login = sessions.login;
            context = sessions.context;
            objects = instances.objects;
            params = phases_are.1;
            points = are;
          }

          held_alike_so : InstancesAlike p.notes.numbering.in_slots (held_by p.slot kept) (held_by p.number held)
          held_alike_so = record {
            uuid = instances.uuid;
            dead = instances.dead;
            holders = f.there.has;
            memory = refl;
            objects = refl;
          }

          -- an invoke or a close
          works_so : (points own_points : List EntryPoint) → points ≡ own_points → is_in_session call.kind ≡ true
              → Back (begins resumed (begins_on (who_resumes resumed) session kept params points))
              (Some (machine.goes_on waiting_call
              (machine.begins_on p.about.members.app ready (start_again ready waiting_call own_session) own_now.instance held
              own_points)))
          works_so points own_points are in_session =
              let here : session.instance ≡ resumed.call.instance =
              f.on_instance session in_session found_session ∙ sym same.instance in
              subst (λ n. Back (begins resumed (record {
                tables = with_instance p.kernel.tables n (held_by p.slot kept);
                instance = n;
                job = session_job (who_resumes resumed) session kept params points;
              }))
              (Some (machine.goes_on waiting_call
              (machine.begins_on p.about.members.app ready (start_again ready waiting_call own_session) own_now.instance held
              own_points)))) (sym here)
              (begins_so resumed.call.instance (held_by p.slot kept) (held_by p.number held) (kernel_begin points)
              (own_begin own_points) homes.1 alone_there held_alike_so of_group (begins_alike points own_points are) refl)

          -- a close, with destroy behind it where no other session keeps the instance
          closing_so : is_in_session call.kind ≡ true
              → closing_points (who_resumes resumed) resumed.call.session session kept
              ≡ machine.closing_points p.about.members.app ready own_now.session own_now.instance
          closing_so in_session =
              let here : session.instance ≡ resumed.call.instance =
              f.on_instance session in_session found_session ∙ sym same.instance in
              ap (λ n. point.Close ∷ destroy_of boot kept.uuid (remove p.kernel.tables.sessions resumed.call.session) n)
              here
              ∙ ap (λ (u : List ℕ). point.Close
              ∷ destroy_of boot u (remove p.kernel.tables.sessions resumed.call.session) resumed.call.instance) uuid_is
              ∙ ap (λ (o : Option Application). point.Close ∷ option_map_or
              (λ (a : Application).
              destroy_after a (remove p.kernel.tables.sessions resumed.call.session) resumed.call.instance) o [])
              f.shares.of_boot
              ∙ ap (λ (ps : List EntryPoint). point.Close ∷ ps) (closes resumed.call.instance homes.1)

          -- an open, where the instance isn't dead
          opens_so : kept.dead ≡ false → resumed.call.kind ≡ kind.Open
              → Back (begins_open resumed (record { app = p.about.members.app; login = session.login; params = params })
              (Some kept))
              (Some (machine.goes_on waiting_call
              (machine.opens_kept p.about.members.app ready (start_again ready waiting_call own_session)
              (own_now.instance, held))))
          opens_so alive is =
              let points : List EntryPoint =
              point.Open ∷ destroy_after p.about.members.app p.kernel.tables.sessions resumed.call.instance in
              let own_points : List EntryPoint =
              point.Open ∷ machine.destroy_after p.about.members.app p.group.sessions own_now.instance in
              let a : Beginning = record {
                uuid = uuid_of p.about.members.app;
                key = boot.key;
                program = Some (program_of p.about.members.app);
                found = kept;
                seen = resumed.call.seen;
                login = session.login;
                context = 0;
                params = params;
                points = points;
              } in
              begins_so resumed.call.instance (held_by p.slot kept) (held_by p.number held) a (own_begin own_points)
              homes.1 alone_there held_alike_so of_group (record {
                uuid = refl;
                key = key_is;
                program = ap (λ b. if b then None else Some (program_of p.about.members.app)) (sym alive ∙ instances.dead);
                memory = instances.memory;
                seen = now_alike.seen;
                login = sessions.login;
                context = sym (context_is is);
                objects = instances.objects;
                params = phases_are.1;
                points = ap (λ (ps : List EntryPoint). point.Open ∷ ps) (destroys resumed.call.instance homes.1);
              }) refl

          not_dead : (dead close : Bool) → (dead && not close) ≡ false → close ≡ false → dead ≡ false
          not_dead true true none other = absurd cc
          not_dead true false none other = absurd cc
          not_dead false close none other = refl

          begins_kind : (call_kind : CallKind) → resumed.call.kind ≡ call_kind → Fits call_kind (Waits params)
              → (kept.dead && not (is_close resumed.call.kind)) ≡ false
              → Back (begins_in resumed params session call_kind (Some kept))
              (machine.begins_again p.about.members.app ready waiting_call own_session call_kind (Some held))
          begins_kind kind.Open is fit passed =
              subst (λ (o : Option Application). Back (option_map_or
              (λ (a : Application). begins_open resumed
              (record { app = a; login = session.login; params = params }) (Some kept)) o
              (ends_with resumed bad_parameters))
              (machine.begins_again p.about.members.app ready waiting_call own_session kind.Open (Some held)))
              (sym of_the_app)
              (opens_so (not_dead kept.dead (is_close resumed.call.kind) passed (ap is_close is)) is)
          begins_kind (kind.Invoke func) is fit passed =
              works_so (point.Invoke func ∷ []) (point.Invoke func ∷ []) refl (ap is_in_session (sym same.kinds ∙ is))
          begins_kind kind.Close is fit passed =
              works_so (closing_points (who_resumes resumed) resumed.call.session session kept)
              (machine.closing_points p.about.members.app ready own_now.session own_now.instance)
              (closing_so (ap is_in_session (sym same.kinds ∙ is))) (ap is_in_session (sym same.kinds ∙ is))
          begins_kind kind.Settled is fit passed = absurd fit

        -- ---- where it is gone

        -- an open, on a new instance of the same number
        remakes_so : found_at p.group.instance own_now.instance ≡ None → (enough : Bool)
            → has_pages_for boot p.kernel.tables p.about.members.app ≡ enough → resumed.call.kind ≡ kind.Open
            → Back (if enough
            then begins resumed (opens_new (who_resumes resumed)
            (record { app = p.about.members.app; login = session.login; params = params }) resumed.call.instance
            p.kernel.tables.next_instance)
            else ends_with resumed out_of_memory)
            (Some (opens_again p.about.members.app ready waiting_call own_session enough))
        remakes_so none false has is = gives_up_so out_of_memory
        remakes_so none true has is =
            let a : Beginning = record {
              uuid = uuid_of p.about.members.app;
              key = boot.key;
              program = Some (program_of p.about.members.app);
              found = made p.about.members.app;
              seen = resumed.call.seen;
              login = session.login;
              context = 0;
              params = params;
              points = point.Create ∷ point.Open
                  ∷ destroy_after p.about.members.app p.kernel.tables.sessions resumed.call.instance;
            } in
            let b : Beginning = record {
              uuid = uuid_of p.about.members.app;
              key = p.group.key;
              program = Some (program_of p.about.members.app);
              found = made p.about.members.app;
              seen = own_now.seen;
              login = own_session.login;
              context = own_session.context;
              params = copied;
              points = point.Create ∷ point.Open
                  ∷ machine.destroy_after p.about.members.app p.group.sessions own_now.instance;
            } in
            begins_so resumed.call.instance (made_for (uuid_of p.about.members.app) p.slot)
            (held_by p.number (made p.about.members.app)) a b homes.1 alone_there
            (record { uuid = refl; dead = refl; holders = f.there.has; memory = refl; objects = refl })
            (record {
              of_app = λ some. refl;
              named = λ all is_it. subst (λ (o : Option ℕ). IsSome o) (sym homes.1) refl;
            }) (record {
              uuid = refl;
              key = key_is;
              program = refl;
              memory = refl;
              seen = now_alike.seen;
              login = sessions.login;
              context = sym (context_is is);
              objects = refl;
              params = phases_are.1;
              points = ap (λ (ps : List EntryPoint). point.Create ∷ point.Open ∷ ps)
                  (destroys resumed.call.instance homes.1);
            }) refl

        -- the machine was told of the room
        room_told : own_now.kind ≡ kind.Open → found_at p.group.instance own_now.instance ≡ None
            → own_now.room ≡ Some (has_pages_for boot p.kernel.tables p.about.members.app)
        room_told is none =
            s.room (ap (λ k. machine.finds_it_gone p.group s.now k s.now.phase) is
            ∙ ap (λ (q : CallPhase). machine.finds_it_gone p.group s.now kind.Open q) own_waits
            ∙ ap (λ (o : Option Instance). is_none o) none)
            ∙ ap (λ b. Some b) room_is

        gone_kind : (call_kind : CallKind) → resumed.call.kind ≡ call_kind → Fits call_kind (Waits params)
            → found_at p.group.instance own_now.instance ≡ None
            → Back (begins_in resumed params session call_kind None)
            (machine.begins_again p.about.members.app ready waiting_call own_session call_kind None)
        gone_kind kind.Open is fit none =
            let enough : Bool = has_pages_for boot p.kernel.tables p.about.members.app in
            let on_kernel = subst (λ (o : Option Application). Back (option_map_or
            (λ (a : Application). begins_open resumed
            (record { app = a; login = session.login; params = params }) None) o (ends_with resumed bad_parameters))
            (Some (opens_again p.about.members.app ready waiting_call own_session enough)))
            (sym of_the_app) (remakes_so none enough refl is) in
            subst (λ (o : Option Bool). Back (begins_in resumed params session kind.Open None)
            (option_map (opens_again p.about.members.app ready waiting_call own_session) o))
            (sym (room_told (sym now_alike.kinds ∙ is) none)) on_kernel
        gone_kind (kind.Invoke func) is fit none = gives_up_so bad_parameters
        gone_kind kind.Close is fit none = gives_up_so bad_parameters
        gone_kind kind.Settled is fit none = absurd fit

        -- ---- the tests

        tested_so : (found_kept found_held : Option Instance)
            → get p.kernel.tables.instances resumed.call.instance ≡ found_kept
            → found_at p.group.instance own_now.instance ≡ found_held
            → FoundAlike p.notes.numbering.in_slots found_kept found_held
            → Back (tested_again resumed params session found_kept)
            (machine.tested_again p.about.members.app ready waiting_call own_session found_held)
        tested_so None None gone none alike =
            subst (λ k. Back (begins_in resumed params session resumed.call.kind None)
            (machine.begins_again p.about.members.app ready waiting_call own_session k None)) now_alike.kinds
            (gone_kind resumed.call.kind refl fits none)
        tested_so (Some kept) (Some held) there own_there alike =
            by_dead (kept.dead && not (is_close resumed.call.kind)) refl
            (ap (λ b. b && not (is_close resumed.call.kind)) alike.dead
            ∙ ap (λ k. held.dead && not (is_close k)) now_alike.kinds)
          where
            behind : (kept.dead && not (is_close resumed.call.kind)) ≡ false
                → Back (if is_held kept then sleeps_on resumed params
                else begins_in resumed params session resumed.call.kind (Some kept))
                (if is_held held then Some (waits_on ready waiting_call)
                else machine.begins_again p.about.members.app ready waiting_call own_session own_now.kind (Some held))
            behind passed =
                either_back p own s.calls (is_held kept) (is_held held) _ _ _ _
                (held_alike p.notes.numbering.in_slots (Some kept) (Some held) alike) sleeps_so
                (subst (λ k. Back (begins_in resumed params session resumed.call.kind (Some kept))
                (machine.begins_again p.about.members.app ready waiting_call own_session k (Some held))) now_alike.kinds
                (begins_kind kept held there own_there alike resumed.call.kind refl fits passed))

            by_dead : (test : Bool) → (kept.dead && not (is_close resumed.call.kind)) ≡ test
                → test ≡ (held.dead && not (is_close own_now.kind))
                → Back (if test then ends_with resumed target_dead
                else if is_held kept then sleeps_on resumed params
                else begins_in resumed params session resumed.call.kind (Some kept))
                (if held.dead && not (is_close own_now.kind) then Some (gives_up ready waiting_call target_dead)
                else if is_held held then Some (waits_on ready waiting_call)
                else machine.begins_again p.about.members.app ready waiting_call own_session own_now.kind (Some held))
            by_dead true is are =
                subst (λ b. Back (ends_with resumed target_dead)
                (if b then Some (gives_up ready waiting_call target_dead)
                else if is_held held then Some (waits_on ready waiting_call)
                else machine.begins_again p.about.members.app ready waiting_call own_session own_now.kind (Some held))) are
                (gives_up_so target_dead)
            by_dead false is are =
                subst (λ b. Back (if is_held kept then sleeps_on resumed params
                else begins_in resumed params session resumed.call.kind (Some kept))
                (if b then Some (gives_up ready waiting_call target_dead)
                else if is_held held then Some (waits_on ready waiting_call)
                else machine.begins_again p.about.members.app ready waiting_call own_session own_now.kind (Some held))) are
                (behind is)
        tested_so None (Some held) gone own_there alike = absurd alike
        tested_so (Some kept) None there gone alike = absurd alike

    -- ---- its session

    abbrev retested : Option Session → Progress
    retested found =
        option_map_or (λ (session : Session). tested_again resumed params session
        (get p.kernel.tables.instances resumed.call.instance)) found (ends_with resumed bad_parameters)

    abbrev own_retested : Option GroupSession → Option Group
    own_retested found =
        option_map_or (λ (session : GroupSession). machine.tested_again p.about.members.app ready waiting_call session
        (instance_at ready own_now.instance)) found (Some (gives_up ready waiting_call bad_parameters))

    by_found : (found : Option Session) (own_found : Option GroupSession)
        → get p.kernel.tables.sessions resumed.call.session ≡ found
        → get p.group.sessions own_now.session ≡ own_found → SessionsFoundAlike p.instances found own_found
        → Back (retested found) (own_retested own_found)
    by_found None None gone none alike = gives_up_so bad_parameters
    by_found (Some session) (Some own_session) there own_there alike =
        tested_so session own_session alike there
        (λ is. f.there.order.fresh own_now.session own_session own_there
        (sym alike.opened ∙ f.unopened params session (sym same.kinds ∙ is) waited_so
        (ap (λ n. get p.kernel.tables.sessions n) (sym same.session) ∙ there)))
        (get p.kernel.tables.instances resumed.call.instance) (found_at p.group.instance own_now.instance) refl refl
        (f.there.tied.instances.alike resumed.call.instance own_now.instance homes.1)
    by_found None (Some own_session) gone own_there alike = absurd alike
    by_found (Some session) None there none alike = absurd alike

    pub waiting_so : Back (resumes_waiting resumed params) (retests p.about.members.app ready waiting_call)
    waiting_so =
        by_found (get p.kernel.tables.sessions resumed.call.session) (get p.group.sessions own_now.session) refl refl
        (f.there.tied.sessions.alike resumed.call.session own_now.session homes.0)

  -- ---- by its phase

  -- the machine's call is given the same, and goes along
  abbrev GivenSo : Progress → Type 0
  GivenSo progress = Back progress (comes_back p.about.members.app ready p.number (input_of given) s.now)

  comes_in : (phase : CallPhase) (progress : Progress) → own_now.phase ≡ phase
      → Back progress (comes_back_in p.about.members.app ready p.number own_now (input_of given) phase) → GivenSo progress
  comes_in phase progress is back =
      subst (λ (q : CallPhase). Back progress
      (comes_back_in p.about.members.app ready p.number own_now (input_of given) q)) (sym is) back

  asks_so : (job from : Job) (wanted asked : Rpc) (payload bytes : List ℕ)
      → own_now.phase ≡ Asks from asked bytes
      → resumed.call.steps ≡ own_now.steps → Asks job wanted payload ≡ Asks from asked bytes
      → GivenSo (goes_on resumed (phase_when_given (Asks job wanted payload) job given))
  asks_so job from wanted asked payload bytes own_is same_steps same_phase =
      let before : CallPhase = Asks from asked bytes in
      let after_it : CallPhase = phase_back before from (input_of given) in
      let phases : phase_when_given (Asks job wanted payload) job given ≡ after_it =
      ap (λ (q : CallPhase). phase_when_given q (job_in job q) given) same_phase ∙ same_given before from given in
      let works : IsAtWork after_it = back_works before from (input_of given) tt in
      let alike : PhasesAlike (kept_at p) resumed.call.steps own_now.steps
      (phase_when_given (Asks job wanted payload) job given) after_it =
      subst (λ (q : CallPhase). PhasesAlike (kept_at p) resumed.call.steps own_now.steps q after_it) (sym phases)
      (subst (λ n. PhasesAlike (kept_at p) resumed.call.steps n after_it after_it) same_steps
      (alike_itself (kept_at p) resumed.call.steps after_it works)) in
      let back = goes_on_so (phase_when_given (Asks job wanted payload) job given) after_it alike
      (λ seen. let flagged : phase_seen before ≡ before = sym (ap phase_seen own_is)
      ∙ now_alike.flagged seen ∙ own_is in
      given_flagged before from given flagged (asking_flagged from asked bytes flagged))
      (λ told. absurd (subst WasTold own_is told)) in
      comes_in before (goes_on resumed (phase_when_given (Asks job wanted payload) job given)) own_is
      (subst (λ (q : CallPhase). Back (goes_on resumed (phase_when_given (Asks job wanted payload) job given))
      (Some (machine.with_call ready p.number (record own_now { phase = phase_back q from (input_of given) }))))
      (sym own_is) back)
    where
      job_in : Job → CallPhase → Job
      job_in other (Runs j) = j
      job_in other (Asks j asked_for sent) = j
      job_in other (Waits copied) = other
      job_in other (Ends result left told wakes) = other

  ends_so : (result answered : CallResult) (params remains : CopiedParams) (told shown_by : Bool)
      (wakes woken : Option ℕ) → own_now.phase ≡ Ends answered remains shown_by woken
      → result ≡ answered → params ≡ remains → told ≡ shown_by → WakesAlike (kept_at p) wakes woken
      → GivenSo (goes_on resumed (Ends result params told (still_wakes given wakes)))
  ends_so result answered params remains told shown_by wakes woken own_is results leaves_it tolds alike =
      comes_in (Ends answered remains shown_by woken) _ own_is
      (goes_on_so (Ends result params told (still_wakes given wakes))
      (Ends answered remains shown_by (wake_left woken (input_of given)))
      (results, leaves_it, tolds, wakes_alike (kept_at p) given wakes woken alike) (λ _. refl)
      (λ was. subst WasTold own_is was))

  fits_waiting : (call_kind other : CallKind) (params copied : CopiedParams) → call_kind ≡ other → params ≡ copied
      → Fits other (Waits copied) → Fits call_kind (Waits params)
  fits_waiting call_kind other params copied kinds same_params fit =
      subst (λ k. Fits k (Waits params)) (sym kinds)
      (subst (λ (c : CopiedParams). Fits other (Waits c)) (sym same_params) fit)

  by_phase : (phase own_phase : CallPhase) → resumed.call.phase ≡ phase → own_now.phase ≡ own_phase
      → (sees call).phase ≡ phase → Fits s.now.kind own_phase
      → PhasesAlike (kept_at p) resumed.call.steps own_now.steps phase own_phase
      → ((job : Job) → phase ≡ Runs job → ⊥) → GivenSo (onward_in resumed phase)
  by_phase (Runs job) own_phase is own_is seen fit alike asked = absurd (asked job refl)
  by_phase (Asks job wanted payload) (Asks from wanted_by bytes) is own_is seen fit alike asked =
      asks_so job from wanted wanted_by payload bytes own_is alike.0 alike.1
  by_phase (Waits params) (Waits copied) is own_is seen fit alike asked =
      comes_in (Waits copied) _ own_is
      (waiting_so params copied is own_is (waited call params seen)
      (fits_waiting resumed.call.kind s.now.kind params copied now_alike.kinds alike.1 fit))
  by_phase (Ends result params told wakes) (Ends answered remains shown_by woken) is own_is seen fit alike asked =
      ends_so result answered params remains told shown_by wakes woken own_is alike.0 alike.1 alike.2 alike.3
  by_phase (Asks job wanted payload) (Runs from) is own_is seen fit alike asked = absurd alike
  by_phase (Asks job wanted payload) (Waits copied) is own_is seen fit alike asked = absurd alike
  by_phase (Asks job wanted payload) (Ends answered remains shown_by woken) is own_is seen fit alike asked = absurd alike
  by_phase (Waits params) (Runs from) is own_is seen fit alike asked = absurd alike
  by_phase (Waits params) (Asks from wanted_by bytes) is own_is seen fit alike asked = absurd alike
  by_phase (Waits params) (Ends answered remains shown_by woken) is own_is seen fit alike asked = absurd alike
  by_phase (Ends result params told wakes) (Runs from) is own_is seen fit alike asked = absurd alike
  by_phase (Ends result params told wakes) (Asks from wanted_by bytes) is own_is seen fit alike asked = absurd alike
  by_phase (Ends result params told wakes) (Waits copied) is own_is seen fit alike asked = absurd alike

  -- a call that had asked for something, or has ended
  pub onward_so : ((job : Job) → resumed.call.phase ≡ Runs job → ⊥) → resumed.call.phase ≡ (sees call).phase
      → Fits s.now.kind s.now.phase → GivenSo (onward_of resumed)
  onward_so asked seen fit =
      by_phase resumed.call.phase own_now.phase refl refl (sym seen) fit now_alike.phases asked
