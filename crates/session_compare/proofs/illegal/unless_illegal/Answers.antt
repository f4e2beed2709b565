use Rattle.native_tas.specs.Table.{entries}
use Rattle.session_compare.proofs.Logs.{illegal_in_one, illegal_in_two}
use Rattle.session_compare.specs.Pairs.{pair_of}
use Rattle.session_compare.proofs.illegal.unless_illegal.Goals as goal

pub check-requires-clause-limits : goal.check-requires-clause-limits
check-requires-clause-limits g c = c.requires.one.boot.limits

pub check-requires-clause-apart : goal.check-requires-clause-apart
check-requires-clause-apart g c = c.requires.one.boot.apart

pub check-requires-clause-few : goal.check-requires-clause-few
check-requires-clause-few g c = c.requires.one.few

pub check-requires-2-clause-limits : goal.check-requires-2-clause-limits
check-requires-2-clause-limits g c = c.requires.two.boot.limits

pub check-requires-2-clause-apart : goal.check-requires-2-clause-apart
check-requires-2-clause-apart g c = c.requires.two.boot.apart

pub check-requires-2-clause-few : goal.check-requires-2-clause-few
check-requires-2-clause-few g c = c.requires.two.few

pub returns-in-Illegal : goal.returns-in-Illegal
returns-in-Illegal g c subject holds =
    illegal_in_one (pair_of (entries c.args.natives.now) c.args.one.now c.args.two.now) subject c.in-Illegal.at
    (rw c.in-Illegal.is at c.in_ok-verdict.ensures)

pub returns-in-Illegal-other : goal.returns-in-Illegal-other
returns-in-Illegal-other g c subject holds =
    illegal_in_two (pair_of (entries c.args.natives.now) c.args.one.now c.args.two.now) subject c.in-Illegal-other.at
    (rw c.in-Legal.is at c.in_ok-verdict.ensures) (rw c.in-Illegal-other.is at c.in_ok-other.ensures)

pub returns-in-Legal-other : goal.returns-in-Legal-other
returns-in-Legal-other g c subject holds =
    holds (rw c.in-Legal.is at c.in_ok-verdict.ensures, rw c.in-Legal-other.is at c.in_ok-other.ensures)
