-- What holds of every list of calls of a desk.
use Rattle.std.specs.Prelude.{◌≡◌, ◌≢◌, ℕ, List}
use Rattle.std.specs.List.{AllPairs}
use Rattle.native_tas.specs.declared.driver_relation.DriverRelation.{DriverRelation}
use Rattle.notif.specs.Desk.{IsDeskOf, driver_calls}
use Rattle.notif.specs.History.{DeskCall, desk_after, owed_calls}

-- whatever was called before, a bottom half calls exactly the drivers that were signalled, while enabled, since the last
-- bottom half or stop, each with the number of these signals, at most 2^32 - 1, in rising order of values
abbrev pub SignalsReachDrivers : Type 0
SignalsReachDrivers = (drivers : List (ℕ × DriverRelation)) (before : List DeskCall) →
    driver_calls (desk_after drivers before) ≡ owed_calls drivers before

-- whatever was called before, the desk has a count for each of its drivers
abbrev pub DesksKeepTheirDrivers : Type 0
DesksKeepTheirDrivers = (drivers : List (ℕ × DriverRelation)) (before : List DeskCall) →
    IsDeskOf drivers (desk_after drivers before)

-- whatever was called before, no value is pending twice
abbrev pub ValuesPendOnce : Type 0
ValuesPendOnce = (drivers : List (ℕ × DriverRelation)) (before : List DeskCall) →
    AllPairs (λ earlier later. earlier ≢ later) (desk_after drivers before).pending
