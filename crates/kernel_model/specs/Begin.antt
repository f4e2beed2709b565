-- A call that begins to work on its instance: it holds it, and its job starts. By the instance properties of the TEE
-- Internal Core API.
use Rattle.std.specs.Prelude.{ℕ, ◌+◌, nat_le, Bool, if◌then◌else◌, List, [], ◌∷◌, ◌++◌, Option, Some, None}
use Rattle.std.specs.Option.{option_map_or}
use Rattle.base.specs.NumberMap.{NumberMap, insert, remove}
use Rattle.job_model.specs.Beginning.{begun_job}
use Rattle.job_model.specs.declared.entry_point.EntryPoint.{EntryPoint}
use Rattle.job_model.specs.declared.entry_point.EntryPoint.TheVariants.{Create, Open, Close}
use Rattle.job_model.specs.Job.{Job, idle_job}
use Rattle.job_model.specs.Owner.{owner_of}
use Rattle.session_table.specs.declared.session.Session.{Session}
use Rattle.session_table.specs.Waiters.{instance_with}
use Rattle.ta_params.specs.declared.copied_params.CopiedParams.{CopiedParams}
use Rattle.ta_params.specs.declared.login.Login.{Login}
use Rattle.tee_storage.specs.declared.handle.Handle.{Handle}
use Rattle.kernel_model.specs.Application.{Application, Booted, uuid_of, pages_in, program_of}
use Rattle.kernel_model.specs.Instances.{free_pages, fresh_memory, made_for, held_by, is_single, program_on}
use Rattle.kernel_model.specs.Instances.{destroy_after, destroy_of}
use Rattle.kernel_model.specs.Kernel.{Instance, Tables}

-- who begins: the tables that it finds, its slot, and whether it has seen that it was cancelled
pub record Beginner : Type 0 where
  pub boot : Booted
  pub tables : Tables
  pub slot : ℕ
  pub seen : Bool

-- what comes of it: the tables, the number of the instance that it holds, and its job
pub record Begun : Type 0 where
  pub tables : Tables
  pub instance : ℕ
  pub job : Job

-- the tables in which an instance is this
abbrev pub with_instance : Tables → ℕ → Instance → Tables
with_instance tables number instance = record tables { instances = insert tables.instances number instance }

-- ---- open

-- what an open brings along
pub record Opener : Type 0 where
  pub app : Application
  pub login : Login
  pub params : CopiedParams

-- the memory and the objects that an open finds on the instance of a number, and its entry points
pub record InstanceFound : Type 0 where
  pub number : ℕ
  pub memory : List ℕ
  pub objects : NumberMap Handle
  pub points : List EntryPoint

-- the job of an open there; its destroy, if any, is for an open that fails
abbrev pub opening_job : Beginner → Opener → InstanceFound → Job
opening_job who opener found =
    let idle = idle_job (owner_of (uuid_of opener.app) who.boot.key) opener.login 0 found.objects opener.params in
    begun_job (record { program = Some (program_of opener.app); memory = found.memory; seen = who.seen }) idle
    (found.points ++ destroy_after opener.app who.tables.sessions found.number)

-- on a new instance of this number, which is created first; the next one will have that number
abbrev pub opens_new : Beginner → Opener → ℕ → ℕ → Begun
opens_new who opener number next = record {
  tables = record (with_instance who.tables number (made_for (uuid_of opener.app) who.slot)) { next_instance = next };
  instance = number;
  job = opening_job who opener (record {
    number = number;
    memory = fresh_memory (pages_in opener.app);
    objects = [];
    points = Create ∷ Open ∷ [];
  });
}

-- on a kept instance, with its number
abbrev pub opens_kept : Beginner → Opener → ℕ × Instance → Begun
opens_kept who opener kept = record {
  tables = with_instance who.tables kept.0 (held_by who.slot kept.1);
  instance = kept.0;
  job = opening_job who opener (record {
    number = kept.0;
    memory = kept.1.memory;
    objects = kept.1.objects;
    points = Open ∷ [];
  });
}

-- the number of an instance that is gone, for which calls still wait: of an application whose sessions share one
abbrev pub awaited_number : Tables → Application → Option ℕ
awaited_number tables app = if is_single app then instance_with tables.waiters (uuid_of app) else None

-- on a new instance: it has the number for which calls still wait, so that they find it, and else the next one
abbrev pub opens_made : Beginner → Opener → Begun
opens_made who opener =
    let next = who.tables.next_instance in
    option_map_or (λ number. opens_new who opener number next) (awaited_number who.tables opener.app)
    (opens_new who opener next (next + 1))

-- there are free pages for a new instance of the application
abbrev pub has_pages_for : Booted → Tables → Application → Bool
has_pages_for boot tables app = nat_le (pages_in app) (free_pages boot tables.instances)

-- ---- invoke and close

-- the job of a call in an opened session on its instance, with these parameters and entry points
abbrev pub session_job : Beginner → Session → Instance → CopiedParams → List EntryPoint → Job
session_job who session instance params points =
    let idle = idle_job (owner_of instance.uuid who.boot.key) session.login session.context instance.objects params in
    begun_job (record { program = program_on who.boot instance; memory = instance.memory; seen = who.seen }) idle points

-- it begins there
abbrev pub begins_on : Beginner → Session → Instance → CopiedParams → List EntryPoint → Begun
begins_on who session instance params points = record {
  tables = with_instance who.tables session.instance (held_by who.slot instance);
  instance = session.instance;
  job = session_job who session instance params points;
}

-- the entry points of a close of this session: close, and destroy behind it where no other session keeps the instance
abbrev pub closing_points : Beginner → ℕ → Session → Instance → List EntryPoint
closing_points who number session instance =
    Close ∷ destroy_of who.boot instance.uuid (remove who.tables.sessions number) session.instance
