use Rattle.std.proofs.Common.{rules, arith, ◌∙◌, ap, slice_set}
use Rattle.std.proofs.lemmas.List.Edits.{map_over_more}
use Rattle.notif.specs.Desk.{signalled}
use Rattle.notif.proofs.driver_count.count_signal.Goals as goal

pub loop-driver-preserved : goal.loop-driver-preserved
loop-driver-preserved c =
    ap (slice_set c.loop-driver.counts c.loop-driver.driver-index) c.signalled.ensures
    ∙ map_over_more (signalled _) c.args.counts.now c.loop-driver.counts c.loop-driver.driver-index _
    (search (rules, arith)) c.loop-driver.invariant (search (rules))
