use Rattle.std.proofs.Common.{◌≤◌, length, take}
use Rattle.session_compare.specs.Comparisons.{Compares}
use Rattle.session_compare.specs.Reading.{IsReadUpTo}
use Rattle.session_compare.specs.declared.differing.Side.TheVariants.{First}
use Rattle.session_compare.proofs.reading.read_both.Given as goal

abbrev pub invariant-loop-at : goal.invariant-loop-at
invariant-loop-at g l =
    let so_far = g.L.ReadsLog.so_far in
    record {
      first : IsReadUpTo (so_far l.fn.first) (take l.at l.events) (so_far l.first);
      second : IsReadUpTo (so_far l.fn.second) (take l.next l.others) (so_far l.second);
      within : l.next ≤ length l.others;
      compares : Compares First l.comparison (so_far l.first).log (so_far l.second).log;
    }
