-- The tables of the native applications and of the drivers in contracts.
use Rattle.std.specs.Prelude.{ℕ, List, map}
use Rattle.native_tas.specs.declared.relation.Relation.{Relation}
use Rattle.native_tas.specs.declared.driver_relation.DriverRelation.{DriverRelation}
use Rattle.native_tas.specs.declared.natives.Natives.{Natives}
use Rattle.native_tas.specs.Native.{entry_of}
use Rattle.native_tas.specs.Driver.{driver_of}

-- the list of each application's UUID and relation, in their order
abbrev pub entries : {X Y : Type 0} {g h : _} → Natives X Y g h → List (List ℕ × Relation)
entries natives = map entry_of natives.kept.items

-- the list of each driver's value and relation, in their order
abbrev pub drivers : {X Y : Type 0} {g h : _} → Natives X Y g h → List (ℕ × DriverRelation)
drivers natives = map driver_of natives.notified.items
