use Rattle.std.proofs.Common.{List, ◌++◌, Option}
use Rattle.session_compare.specs.Comparisons.{Compares}
use Rattle.session_compare.proofs.differing.add.Given as goal

abbrev pub invariant-loop-logged : goal.invariant-loop-logged
invariant-loop-logged g l = (its other : List (g.row.E.Denot × Option g.row.R.Denot)) → Compares l.side l.fn.comparison its other
    → Compares l.side l.comparison (its ++ l.yielded) other
