use Rattle.solo.proofs.Grants.{IsNearing}
use Rattle.solo.proofs.stops.run_to_stop.Given as goal

abbrev pub invariant-grants : goal.invariant-grants
invariant-grants l = IsNearing l.initial.cont l.cont l.left

abbrev pub decreases-grants : goal.decreases-grants
decreases-grants l = l.left
