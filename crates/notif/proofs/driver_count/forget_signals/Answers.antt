use Rattle.std.proofs.Common.{rules, arith, get_or}
use Rattle.std.proofs.lemmas.List.Edits.{map_over_more}
use Rattle.notif.specs.declared.driver_count.DriverCount.{DriverCount}
use Rattle.notif.specs.Desk.{called}
use Rattle.notif.proofs.driver_count.forget_signals.Goals as goal

abbrev none : DriverCount
none = record { value = 0; count = 0 }

pub loop-driver-preserved : goal.loop-driver-preserved
loop-driver-preserved c =
    map_over_more called c.args.counts.now c.loop-driver.counts c.loop-driver.driver-index
    (get_or c.loop-driver.counts c.loop-driver.driver-index none)
    (search (rules, arith)) c.loop-driver.invariant (search (rules))
