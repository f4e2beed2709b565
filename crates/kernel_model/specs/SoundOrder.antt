-- The order and the limits of the tables, in every kernel that a legal history comes to. This project's own.
use Rattle.base.specs.NumberMap.{IsRising, IsTable}
use Rattle.kernel_model.specs.Kernel.{Tables}

-- the numbers rise, so that each stands once, and sessions and registered buffers are at most 64
pub record AreInOrder (tables : Tables) : Type 0 where
  pub sessions : IsTable 64 tables.sessions
  pub instances : IsRising tables.instances
  pub buffers : IsTable 64 tables.registered.buffers
