-- What drivers answer. This project's own.
use Rattle.std.specs.Prelude.{ℕ, ◌&&◌, Bool, nat_le}
use Rattle.native_tas.specs.declared.driver_relation.DriverRelation.{DriverRelation}
use Rattle.native_tas.specs.declared.driver_relation.DriverRelation.TheVariants.{Echo, Fixed}

-- what a driver answers to so many notifications
abbrev pub driver_answer : DriverRelation → ℕ → ℕ
driver_answer Echo count = count
driver_answer (Fixed n) count = n

-- a driver may have this value (0 is OP-TEE's value for the bottom half)
abbrev pub is_driver_value : ℕ → Bool
is_driver_value value = nat_le 1 value && nat_le value 63
