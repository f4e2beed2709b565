use Rattle.param_copy.proofs.Taking.{Taking}
use Rattle.param_copy.proofs.take.take_all.Given as goal

abbrev pub invariant-loop-i : goal.invariant-loop-i
invariant-loop-i l = Taking l.registry.buffers l.params l.first l.lane l.fn.reads l.i l.taken l.reads
