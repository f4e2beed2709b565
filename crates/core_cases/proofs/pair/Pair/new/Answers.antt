use Rattle.std.proofs.Common.{None, refl}
use Rattle.core_cases.proofs.Pairs.{pair_begins}
use Rattle.core_cases.proofs.pair.Pair.new.Goals as goal

pub returns-clause-own : goal.returns-clause-own
returns-clause-own c =
    pair_begins c.args.shared.now
    (record {
      first = record { pass = c.two_of-first.result.0; lane = c.args.one; work = None };
      second = record { pass = c.two_of-first.result.1; lane = c.args.two; work = None };
    })
    c.args.passes.items c.two_of-first.ensures.0 c.requires.own c.requires.numbers refl refl
