use Rattle.std.proofs.Common.{◌≡◌, filter, map, take}
use Rattle.native_tas.specs.Table.{drivers}
use Rattle.notif.specs.Desk.{answer_to, first_answer, was_signalled}
use Rattle.notif.proofs.driver_count.call_drivers.Given as goal

abbrev pub invariant-loop-driver : goal.invariant-loop-driver
invariant-loop-driver g l = l.first ≡ first_answer (map (answer_to (drivers l.natives)) (filter was_signalled (take l.driver-index l.counts)))
