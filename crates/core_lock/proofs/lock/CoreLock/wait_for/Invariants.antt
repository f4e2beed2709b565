use Rattle.std.proofs.Common.{◌≡◌}
use Rattle.core_lock.specs.Steps.{IsSameSeat}
use Rattle.core_lock.proofs.lock.CoreLock.wait_for.Given as goal

abbrev pub invariant-loop : goal.invariant-loop
invariant-loop g l = IsSameSeat l.initial.seat l.seat × (l.seat.me ≡ l.initial.seat.me)
