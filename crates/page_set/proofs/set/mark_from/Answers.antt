use Rattle.std.proofs.Common.{refl, arith}
use Rattle.page_set.proofs.Marks.{marks_more}
use Rattle.page_set.proofs.set.mark_from.Goals as goal

pub loop-number-init : goal.loop-number-init
loop-number-init c = record {
  marked = λ number low high. absurd (omega (arith, low, high));
  keeps = λ number is. is;
  length = refl;
}

pub loop-number-preserved : goal.loop-number-preserved
loop-number-preserved c =
    marks_more c.args.marks.now c.loop-number.marks _ c.loop-number.number
    (omega (arith, c.loop-number.invariant.length, c.requires.all, c.requires.inside)) c.loop-number.invariant

pub returns-clause-touched : goal.returns-clause-touched
returns-clause-touched c = λ number below above.
    c.loop-number.invariant.marked number (omega (arith, above)) (omega (arith, below))

pub returns-clause-keeps : goal.returns-clause-keeps
returns-clause-keeps c = c.loop-number.invariant.keeps
