use Rattle.page_set.proofs.Marks.{AreMarked}
use Rattle.page_set.proofs.set.mark_from.Given as goal

abbrev pub invariant-loop-number : goal.invariant-loop-number
invariant-loop-number l = AreMarked l.initial.marks l.marks l.first l.number
