use Rattle.std.proofs.Common.{◌≡◌, map, ◌++◌}
use Rattle.std.specs.Prelude.{take, drop}
use Rattle.notif.specs.Desk.{called}
use Rattle.notif.proofs.driver_count.forget_signals.Given as goal

abbrev pub invariant-loop-driver : goal.invariant-loop-driver
invariant-loop-driver l = l.counts ≡ map (called) (take l.driver-index l.fn.counts) ++ drop l.driver-index l.fn.counts
