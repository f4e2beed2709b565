use Rattle.std.proofs.Common.{◌≡◌, ◌-◌, filter}
use Rattle.std.specs.List.{range_with_len}
use Rattle.native_tas.specs.Driver.{has_driver}
use Rattle.native_tas.specs.Table.{drivers}
use Rattle.notif.specs.Desk.{unsignalled}
use Rattle.notif.proofs.desk.Desk.new.Given as goal

abbrev pub invariant-loop-value : goal.invariant-loop-value
invariant-loop-value g l =
    l.counts.items ≡ unsignalled (filter (has_driver (drivers l.natives)) (range_with_len 1 (l.value - 1)))
