-- What is built in beside what an input names.
use Rattle.std.specs.Prelude.{ℕ, List}
use Rattle.native_tas.specs.Table.{drivers, entries}
use Rattle.native_tas.specs.declared.driver_relation.DriverRelation.{DriverRelation}
use Rattle.native_tas.specs.declared.natives.Natives.{Natives}
use Rattle.native_tas.specs.declared.relation.Relation.{Relation}

-- applications, each by its UUID and what its function answers, and drivers, each by its value and what its function answers
pub record BuiltIn : Type 0 where
  pub natives : List (List ℕ × Relation)
  pub drivers : List (ℕ × DriverRelation)

abbrev pub built_in : {X Y : Type 0} {g h : _} → Natives X Y g h → BuiltIn
built_in kept = record { natives = entries kept; drivers = drivers kept }
