use Rattle.std.proofs.Common.{◌≡◌, ◌≤◌, ◌-◌, vec_len, vec_capacity}
use Rattle.core_lock.proofs.Dealing.{IsDealt}
use Rattle.core_lock.proofs.lock.CoreLock.deal.Given as goal

abbrev pub invariant-loop-number : goal.invariant-loop-number
invariant-loop-number g l = IsDealt g.T.Logged.maker g.T.Logged.basis l.self l.number l.rest l.passes.items × (vec_len l.passes ≡ l.number) × (l.count ≤ vec_capacity l.passes)

abbrev pub decreases-loop-number : goal.decreases-loop-number
decreases-loop-number g l = l.count - l.number
