-- A call that begins on the instance of its session.
use Rattle.std.proofs.Common.{◌≡◌, ℕ, ◌*◌, Bool, true, false, List, length, Option, Some, None, refl, sym, ap, ap₂, ◌∙◌, subst}
use Rattle.std.specs.Prelude.{if◌then◌else◌}
use Rattle.std.specs.Option.{IsSomeAnd, option_map}
use Rattle.base.specs.NumberMap.{NumberMap, get}
use Rattle.job_model.specs.Beginning.{Beginning, Program, begun_job}
use Rattle.job_model.specs.Job.{idle_job}
use Rattle.job_model.specs.declared.entry_point.EntryPoint.{EntryPoint}
use Rattle.job_model.specs.Owner.{owner_of}
use Rattle.kernel_model.specs.Application.{Booted, pages_in, program_of, uuid_of}
use Rattle.kernel_model.specs.Application as model
use Rattle.kernel_model.specs.Begin.{begins_on, session_job, with_instance}
use Rattle.kernel_model.specs.Instances.{app_of, held_by, program_on}
use Rattle.kernel_model.specs.Kernel.{Instance, Runs}
use Rattle.rpc_cont.specs.Conts.{kept_memory, kept_params}
use Rattle.rpc_cont.specs.declared.cont.Cont.{Cont}
use Rattle.session_table.specs.declared.session.Session.{Session}
use Rattle.ta_instances.specs.declared.instance.Instance.{Instance as CodeInstance}
use Rattle.ta_params.specs.declared.login.Login.{Login}
use Rattle.tee_storage.specs.declared.handle.Handle.{Handle}
use Rattle.kernel_state.specs.Calls.{IsAppOf, IsInPhase, bytes_of}
use Rattle.kernel_state.specs.Setup.{application_of}
use Rattle.kernel_state.specs.Tables.{instance_of, tables_of}
use Rattle.kernel_state.specs.declared.setup.Application.{Application}
use Rattle.kernel_state.specs.declared.tables.Tables.{Tables}
use Rattle.begin_call.proofs.HeldInstances.{kept_as}
use Rattle.begin_call.proofs.Maps.{get_seen}
use Rattle.begin_call.proofs.Starting.{can_start}
use Rattle.begin_call.specs.Begins.{HasBegun, IsReady, IsValidApp, begun_from, who_begins}
use Rattle.begin_call.specs.Found.{CanStart, beginning_with}

-- ---- its instance

-- the kept one, as the kernel sees it
pub found_kept : (m : NumberMap CodeInstance) (number : ℕ) (found : CodeInstance) → get m number ≡ Some found → get (kept_as m) number ≡ Some (instance_of found)
found_kept m number found is = get_seen instance_of m number ∙ ap (option_map instance_of) is

pub ready_found : (m : NumberMap CodeInstance) (number : ℕ) (found : CodeInstance) (app : model.Application) → get m number ≡ Some found →
    IsSomeAnd (get (kept_as m) number) (IsReady app) → IsReady app (instance_of found)
ready_found m number found app is ready =
    subst (λ (o : Option Instance). IsSomeAnd o (IsReady app)) (found_kept m number found is) ready

none_kept : (o : Option CodeInstance) (app : model.Application) → o ≡ None → IsSomeAnd (option_map instance_of o) (IsReady app) → ⊥
none_kept None app none ready = ready
none_kept (Some found) app none ready = absurd (cc)

pub never_absent : (m : NumberMap CodeInstance) (number : ℕ) (app : model.Application) → get m number ≡ None → IsSomeAnd (get (kept_as m) number) (IsReady app) → ⊥
never_absent m number app none ready =
    none_kept (get m number) app none (subst (λ (o : Option Instance). IsSomeAnd o (IsReady app)) (get_seen instance_of m number) ready)

same_found : (m : NumberMap CodeInstance) (number : ℕ) (found : CodeInstance) (instance : Instance) → get m number ≡ Some found →
    get (kept_as m) number ≡ Some instance → instance_of found ≡ instance
same_found m number found instance is seen = let there : get (kept_as m) number ≡ Some (instance_of found) = found_kept m number found is in cc

-- ---- what runs

-- nothing on a dead one
abbrev pub alive_app : Bool → Application → Option (Application)
alive_app dead app = if dead then None else Some app

can_start_if : (dead : Bool) (app : Application) (memory : Option (List ℕ)) (uuid bytes : List ℕ) → IsValidApp (application_of app) →
    uuid ≡ uuid_of (application_of app) → kept_memory bytes_of memory ≡ bytes → (dead ≡ false → length bytes ≡ 4096 * pages_in (application_of app)) →
    CanStart (alive_app dead app) memory uuid
can_start_if true app memory uuid bytes valid same kept all = tt
can_start_if false app memory uuid bytes valid same kept all = can_start app memory uuid bytes valid same kept (all refl)

pub can_start_on : (found : CodeInstance) (app : Application) (program : Option (Application)) (memory : Option (List ℕ)) →
    IsValidApp (application_of app) → IsReady (application_of app) (instance_of found) → program ≡ alive_app found.dead app →
    kept_memory bytes_of memory ≡ (instance_of found).memory → CanStart program memory found.uuid
can_start_on found app program memory valid ready is kept =
    subst (λ (program : Option Application). CanStart program memory found.uuid) (sym is)
    (can_start_if found.dead app memory found.uuid (instance_of found).memory valid ready.uuid kept ready.pages)

program_is : (dead : Bool) (app : Application) (o : Option model.Application) → o ≡ Some (application_of app) →
    option_map (λ (app : Application). program_of (application_of app)) (alive_app dead app) ≡ (if dead then None else option_map program_of o)
program_is true app o is = refl
program_is false app o is = sym (ap (option_map program_of) is)

-- ---- its job

beginning_is : (boot : Booted) (instance : Instance) (app : Application) (program : Option (Application)) (memory : Option (List ℕ)) (seen : Bool) →
    app_of boot instance.uuid ≡ Some (application_of app) → program ≡ alive_app instance.dead app → kept_memory bytes_of memory ≡ instance.memory →
    beginning_with program memory seen ≡ record { program = program_on boot instance; memory = instance.memory; seen = seen }
beginning_is boot instance app program memory seen found is kept =
    let runs : option_map (λ (app : Application). program_of (application_of app)) program ≡ program_on boot instance =
    ap (option_map (λ (app : Application). program_of (application_of app))) is ∙ program_is instance.dead app (app_of boot instance.uuid) found in
    ap₂ (λ (program : Option Program) (memory : List ℕ). from program memory) runs kept
  where
    from : Option Program → List ℕ → Beginning
    from program memory = record { program = program; memory = memory; seen = seen }

pub job_is : (boot : Booted) (tables : Tables) (slot : ℕ) (old : Cont (List ℕ)) (session : Session) (instance : Instance) (points : List EntryPoint)
    (app : Application) (program : Option (Application)) (memory : Option (List ℕ)) (objects : NumberMap Handle) →
    app_of boot instance.uuid ≡ Some (application_of app) → program ≡ alive_app instance.dead app → kept_memory bytes_of memory ≡ instance.memory → objects ≡ instance.objects →
    begun_job (beginning_with program memory old.cancelled) (idle_job (owner_of instance.uuid old.key) session.login session.context objects (kept_params old.params)) points
    ≡ session_job (who_begins boot tables slot old) session instance (kept_params old.params) points
job_is boot tables slot old session instance points app program memory objects found is kept same =
    ap₂ (λ (from : Beginning) (objects : NumberMap Handle). begun_job from (idle_job (owner_of instance.uuid old.key) session.login session.context objects (kept_params old.params)) points)
    (beginning_is boot instance app program memory old.cancelled found is kept) same

-- ---- what stays

-- the call that is to start there, with the instance's open objects
abbrev pub placed : Cont (List ℕ) → Session → NumberMap Handle → Cont (List ℕ)
placed old session objects =
    record old { login = session.login; context = session.context; instance = session.instance; objects = objects }

abbrev pub started_from : Cont (List ℕ) → Cont (List ℕ) → Cont (List ℕ)
started_from old new = record old {
  app = new.app;
  params = new.params;
  point = new.point;
  machine = new.machine;
  points = new.points;
  phase = new.phase;
}

stays_at : (old new : Cont (List ℕ)) (session : Session) (objects : NumberMap Handle) → new ≡ started_from (placed old session objects) new →
    new ≡ begun_from old new
stays_at old new session objects stays =
    let login : session.login ≡ new.login = sym (ap (λ (one : Cont (List ℕ)). one.login) stays) in
    let context : session.context ≡ new.context = sym (ap (λ (one : Cont (List ℕ)). one.context) stays) in
    let instance : session.instance ≡ new.instance = sym (ap (λ (one : Cont (List ℕ)). one.instance) stays) in
    let open_objects : objects ≡ new.objects = sym (ap (λ (one : Cont (List ℕ)). one.objects) stays) in
    subst (λ (o : NumberMap Handle). new ≡ started_from (record old { login = new.login; context = new.context; instance = new.instance; objects = o }) new) open_objects
    (subst (λ (i : ℕ). new ≡ started_from (record old { login = new.login; context = new.context; instance = i; objects = objects }) new) instance
    (subst (λ (c : ℕ). new ≡ started_from (record old { login = new.login; context = c; instance = session.instance; objects = objects }) new) context
    (subst (λ (l : Login). new ≡ started_from (record old { login = l; context = session.context; instance = session.instance; objects = objects }) new) login stays)))

-- ---- all of it

session_begun : (boot : Booted) (tables after : Tables) (old new : Cont (List ℕ)) (slot : ℕ) (session : Session) (instance : Instance) (points : List EntryPoint)
    (app : Application) (program : Option (Application)) (memory : Option (List ℕ)) (objects : NumberMap Handle) →
    app_of boot instance.uuid ≡ Some (application_of app) → program ≡ alive_app instance.dead app → kept_memory bytes_of memory ≡ instance.memory → objects ≡ instance.objects →
    tables_of after ≡ with_instance (tables_of tables) session.instance (held_by slot instance) →
    IsInPhase new (Runs (begun_job (beginning_with program memory old.cancelled) (idle_job (owner_of instance.uuid old.key) session.login session.context objects (kept_params old.params)) points)) →
    IsAppOf new.app (Some instance.uuid) → new ≡ started_from (placed old session objects) new →
    HasBegun after old new instance.uuid (begins_on (who_begins boot tables slot old) session instance (kept_params old.params) points)
session_begun boot tables after old new slot session instance points app program memory objects found is kept same held runs of_app stays = record {
  tables = held;
  runs = (sym (job_is boot tables slot old session instance points app program memory objects found is kept same) ∙ runs.0, runs.1);
  app = of_app;
  instance = ap (λ (one : Cont (List ℕ)). one.instance) stays;
  stays = stays_at old new session objects stays;
}

-- by the instance as it is kept
pub begun_on : (boot : Booted) (tables after : Tables) (old new : Cont (List ℕ)) (slot : ℕ) (session : Session) (found : CodeInstance) (instance : Instance) (points : List EntryPoint)
    (app : Application) (program : Option (Application)) (memory : Option (List ℕ)) (objects : NumberMap Handle) →
    get tables.instances session.instance ≡ Some found → get (kept_as tables.instances) session.instance ≡ Some instance →
    app_of boot instance.uuid ≡ Some (application_of app) → program ≡ alive_app found.dead app → kept_memory bytes_of memory ≡ instance.memory → objects ≡ instance.objects →
    tables_of after ≡ with_instance (tables_of tables) session.instance (held_by slot instance) →
    IsInPhase new (Runs (begun_job (beginning_with program memory old.cancelled) (idle_job (owner_of found.uuid old.key) session.login session.context objects (kept_params old.params)) points)) →
    IsAppOf new.app (Some found.uuid) → new ≡ started_from (placed old session objects) new →
    HasBegun after old new instance.uuid (begins_on (who_begins boot tables slot old) session instance (kept_params old.params) points)
begun_on boot tables after old new slot session found instance points app program memory objects is seen of_boot runs_app kept same held runs of_app stays =
    let this : instance_of found ≡ instance = same_found tables.instances session.instance found instance is seen in
    let dead : found.dead ≡ instance.dead = ap (λ (one : Instance). one.dead) this in
    let uuid : found.uuid ≡ instance.uuid = ap (λ (one : Instance). one.uuid) this in
    session_begun boot tables after old new slot session instance points app program memory objects of_boot
    (runs_app ∙ ap (λ (dead : Bool). alive_app dead app) dead) kept same held
    (subst (λ (uuid : List ℕ). IsInPhase new (Runs (begun_job (beginning_with program memory old.cancelled) (idle_job (owner_of uuid old.key) session.login session.context objects (kept_params old.params)) points))) uuid runs)
    (subst (λ (uuid : List ℕ). IsAppOf new.app (Some uuid)) uuid of_app) stays
