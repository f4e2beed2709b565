use Rattle.std.proofs.Common.{vec_len}
use Rattle.core_lock.proofs.Gathering.{IsGathered}
use Rattle.core_lock.proofs.lock.CoreLock.gather.Given as goal

abbrev pub invariant-loop-pass : goal.invariant-loop-pass
invariant-loop-pass g l = IsGathered g.T.Logged.maker g.T.Logged.basis l.self l.fn.passes.items l.passes.items l.all

abbrev pub decreases-loop-pass : goal.decreases-loop-pass
decreases-loop-pass g l = vec_len l.passes
