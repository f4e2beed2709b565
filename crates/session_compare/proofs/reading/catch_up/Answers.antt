-- The second journal is read event by event.
use Rattle.std.proofs.Common.{◌++◌, List, Option, arith, subst, sym}
use Rattle.session_compare.proofs.Comparisons.{compares_back, compares_on}
use Rattle.session_compare.proofs.ReadBoth.{few_with_next, illegal_here, read_on}
use Rattle.session_compare.specs.Comparisons.{Compares}
use Rattle.session_compare.specs.declared.differing.Side.TheVariants.{First}
use Rattle.session_compare.proofs.reading.catch_up.Goals as goal

pub loop-at-init : goal.loop-at-init
loop-at-init g c = record { reading = c.requires.reading; within = c.requires.within; compares = λ one compares. compares }

pub read-requires-clause-fits : goal.read-requires-clause-fits
read-requires-clause-fits g c = c.loop-at.invariant.reading.fits

pub read-requires-clause-few : goal.read-requires-clause-few
read-requires-clause-few g c =
    let so_far = g.L.ReadsLog.so_far in
    few_with_next (so_far c.args.second.now) c.args.others.now c.loop-at.at (so_far c.loop-at.second) c.loop-at.invariant.reading
    c.index-others-at.result c.loop-at-test.true c.index-others-at.is c.requires.few

pub returns-then-not-is_first_ahead : goal.returns-then-not-is_first_ahead
returns-then-not-is_first_ahead g c one compares = record {
  reading = c.loop-at.invariant.reading;
  within = c.loop-at.invariant.within;
  compares = c.loop-at.invariant.compares one compares;
  whole = λ yes. absurd cc;
}

pub returns-in-None : goal.returns-in-None
returns-in-None g c one compares =
    let so_far = g.L.ReadsLog.so_far in
    illegal_here (so_far c.args.second.now) c.args.others.now c.loop-at.at (so_far c.loop-at.second) c.loop-at.invariant.reading
    c.index-others-at.result c.loop-at-test.true c.index-others-at.is (rw c.in-None.is at c.in_ok-read.ensures)

pub loop-at-preserved : goal.loop-at-preserved
loop-at-preserved g c =
    let so_far = g.L.ReadsLog.so_far in
    let has = rw c.in-Some.is at c.in_ok-read.ensures in
    record {
      reading = read_on (so_far c.args.second.now) c.args.others.now c.loop-at.at (so_far c.loop-at.second) c.loop-at.invariant.reading
          c.index-others-at.result c.loop-at-test.true c.index-others-at.is (so_far c.read.new.self) has.read;
      within = omega (arith, c.loop-at-test.true);
      compares = λ one compares.
          let log = (so_far c.loop-at.second).log in
          subst (λ (two : List (g.row.L-LogEvent.Denot × Option g.row.L-LogReply.Denot)). Compares First c.add.new.comparison one two) (sym has.log)
          (compares_on c.add.new.comparison one (log ++ c.in-Some.news.items)
          (c.in_ok-add-in-Some.ensures log one (compares_back c.loop-at.comparison one log (c.loop-at.invariant.compares one compares))));
    }

pub returns : goal.returns
returns g c one compares = record {
  reading = c.loop-at.invariant.reading;
  within = c.loop-at.invariant.within;
  compares = c.loop-at.invariant.compares one compares;
  whole = λ yes. omega (arith, c.loop-at-test.false, c.loop-at.invariant.within);
}
