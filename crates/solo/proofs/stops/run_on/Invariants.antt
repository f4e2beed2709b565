use Rattle.solo.proofs.Grants.{IsOnTheWay}
use Rattle.solo.proofs.stops.run_on.Given as goal

abbrev pub invariant-grants : goal.invariant-grants
invariant-grants l = IsOnTheWay l.initial.cont l.cont l.more l.left

abbrev pub decreases-grants : goal.decreases-grants
decreases-grants l = l.left
