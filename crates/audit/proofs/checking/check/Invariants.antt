use Rattle.audit.proofs.Checked.{HasDoneFirst}
use Rattle.kernel_model.specs.Application.{booted}
use Rattle.native_tas.specs.Table.{entries}
use Rattle.audit.proofs.checking.check.Given as goal

abbrev pub invariant-loop-at : goal.invariant-loop-at
invariant-loop-at g l = HasDoneFirst (booted l.fn.boot (entries l.fn.natives)) l.events l.at l.replay
