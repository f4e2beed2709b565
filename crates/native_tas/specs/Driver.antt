-- A driver in contracts: its value and relation, and the list of them.
use Rattle.std.specs.Prelude.{ℕ, ◌==◌, Bool, List, Option, is_some, find}
use Rattle.native_tas.specs.declared.driver_relation.DriverRelation.{DriverRelation}
use Rattle.native_tas.specs.declared.driver.Driver.{Driver}

-- what contracts see of a driver
abbrev pub driver_of : {X : Type 0} {g : _} → Driver X g → ℕ × DriverRelation
driver_of driver = (driver.value, driver.relation)

-- the driver with the value
abbrev pub find_driver : List (ℕ × DriverRelation) → ℕ → Option (ℕ × DriverRelation)
find_driver drivers value = find (λ driver. driver.0 == value) drivers

-- a driver with the value is kept
abbrev pub has_driver : List (ℕ × DriverRelation) → ℕ → Bool
has_driver drivers value = is_some (find_driver drivers value)
