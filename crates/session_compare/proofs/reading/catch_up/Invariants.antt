use Rattle.std.proofs.Common.{◌≤◌, ◌-◌, List, Option, length, take}
use Rattle.session_compare.specs.Comparisons.{Compares}
use Rattle.session_compare.specs.Reading.{IsReadUpTo}
use Rattle.session_compare.specs.declared.differing.Side.TheVariants.{First}
use Rattle.session_compare.proofs.reading.catch_up.Given as goal

abbrev pub invariant-loop-at : goal.invariant-loop-at
invariant-loop-at g l =
    let so_far = g.L.ReadsLog.so_far in
    record {
      reading : IsReadUpTo (so_far l.fn.second) (take l.at l.others) (so_far l.second);
      within : l.at ≤ length l.others;
      compares : (one : List (g.row.L-LogEvent.Denot × Option g.row.L-LogReply.Denot)) → Compares First l.fn.comparison one (so_far l.fn.second).log
          → Compares First l.comparison one (so_far l.second).log;
    }

abbrev pub decreases-loop-at : goal.decreases-loop-at
decreases-loop-at g l = length l.others - l.at
