use Rattle.std.proofs.Common.{◌≡◌, map, ◌++◌}
use Rattle.std.specs.Prelude.{take, drop}
use Rattle.notif.specs.Desk.{signalled}
use Rattle.notif.proofs.driver_count.count_signal.Given as goal

abbrev pub invariant-loop-driver : goal.invariant-loop-driver
invariant-loop-driver l = l.counts ≡ map (signalled l.value) (take l.driver-index l.fn.counts) ++ drop l.driver-index l.fn.counts
