use Rattle.std.proofs.Common.{refl, inl, inr}
use Rattle.session_compare.proofs.illegal.illegal_two.Goals as goal

pub check-requires-clause-limits : goal.check-requires-clause-limits
check-requires-clause-limits g c = c.requires.boot.limits

pub check-requires-clause-apart : goal.check-requires-clause-apart
check-requires-clause-apart g c = c.requires.boot.apart

pub check-requires-clause-few : goal.check-requires-clause-few
check-requires-clause-few g c = c.requires.few

pub returns-in-Legal : goal.returns-in-Legal
returns-in-Legal g c two fails = inr (refl, rw c.in-Legal.is at c.in_ok-verdict.ensures, fails)

pub returns-in-Illegal : goal.returns-in-Illegal
returns-in-Illegal g c two fails = inl (refl, rw c.in-Illegal.is at c.in_ok-verdict.ensures)
