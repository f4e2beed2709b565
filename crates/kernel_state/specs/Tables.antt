-- The tables of a core, as the kernel's definitions see them.
use Rattle.std.specs.Prelude.{◌≡◌, ◌+◌, [], map}
use Rattle.std.specs.Option.{option_map_or}
use Rattle.kernel_model.specs.Instances.{free_pages}
use Rattle.kernel_model.specs.Kernel as model
use Rattle.ta_instances.specs.declared.instance.Instance.{Instance}
use Rattle.kernel_state.specs.Setup.{booted_of_setup}
use Rattle.kernel_state.specs.declared.setup.Setup.{Setup}
use Rattle.kernel_state.specs.declared.tables.Tables.{Tables}

-- an instance; one that is built in has no memory, and no bytes of it
abbrev pub instance_of : Instance → model.Instance
instance_of instance = record {
  uuid = instance.uuid;
  dead = instance.dead;
  holder = instance.holder;
  memory = option_map_or (λ pages. pages) instance.memory [];
  objects = instance.objects;
}

-- the tables
abbrev pub tables_of : Tables → model.Tables
tables_of tables = record {
  sessions = tables.sessions.kept;
  instances = map (λ kept. (kept.0, instance_of kept.1)) tables.instances;
  waiters = tables.waiters;
  registered = tables.registry;
  next_session = tables.sessions.next;
  next_instance = tables.instances_made + 1;
}

-- the pool has just the pages that no instance has, of all frames of the boot
pub record HasFreePages (setup : Setup) (tables : Tables) : Type 0 where
  pub frames : tables.pool.frames ≡ setup.frames
  pub free : tables.pool.free ≡ free_pages (booted_of_setup setup) (tables_of tables).instances
