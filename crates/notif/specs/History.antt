-- The calls of a desk over its life. Each list of them has the last call first.
use Rattle.std.specs.Prelude.{ℕ, ◌+◌, Bool, false, true, ◌&&◌, ◌==◌, if◌then◌else◌, min, nat_lt, List, [], ◌∷◌, map, filter}
use Rattle.native_tas.specs.declared.driver_relation.DriverRelation.{DriverRelation}
use Rattle.native_tas.specs.Driver.{has_driver}
use Rattle.notif.specs.declared.driver_count.DriverCount.{DriverCount}
use Rattle.notif.specs.Desk.{DeskState, signal_values, new_desk, after_enable, after_signal, after_next, after_bottom_half, after_stop}

-- a call of a desk
pub data DeskCall : Type 0 where
  Enable : DeskCall
  Signal : (value : ℕ) → DeskCall
  Next : DeskCall
  BottomHalf : DeskCall
  Stop : DeskCall

-- a desk after one call
abbrev pub after_call : DeskState → DeskCall → DeskState
after_call desk Enable = after_enable desk
after_call desk (Signal value) = after_signal desk value
after_call desk Next = after_next desk
after_call desk BottomHalf = after_bottom_half desk
after_call desk Stop = after_stop desk

-- a new desk for these drivers, after these calls
abbrev pub desk_after : List (ℕ × DriverRelation) → List DeskCall → DeskState
desk_after drivers [] = new_desk drivers
desk_after drivers (call ∷ before) = after_call (desk_after drivers before) call

-- signals count after these calls: it was enabled, and not stopped since
abbrev pub is_enabled : List DeskCall → Bool
is_enabled [] = false
is_enabled (Enable ∷ before) = true
is_enabled (Signal value ∷ before) = is_enabled before
is_enabled (Next ∷ before) = is_enabled before
is_enabled (BottomHalf ∷ before) = is_enabled before
is_enabled (Stop ∷ before) = false

-- how many signals of the value came, while enabled, since the last bottom half or stop
abbrev pub signals_of : ℕ → List DeskCall → ℕ
signals_of value [] = 0
signals_of value (Enable ∷ before) = signals_of value before
signals_of value (Signal other ∷ before) = (if is_enabled before && value == other then 1 else 0) + signals_of value before
signals_of value (Next ∷ before) = signals_of value before
signals_of value (BottomHalf ∷ before) = 0
signals_of value (Stop ∷ before) = 0

-- the calls that a bottom half owes after these calls: of each driver with such signals, in rising order of values, with
-- their number, at most 2^32 - 1
unfoldable pub owed_calls : List (ℕ × DriverRelation) → List DeskCall → List DriverCount
owed_calls drivers before =
    map (λ value. record { value = value; count = min (signals_of value before) 4294967295 })
    (filter (λ value. has_driver drivers value && nat_lt 0 (signals_of value before)) signal_values)
