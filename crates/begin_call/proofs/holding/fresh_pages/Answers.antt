use Rattle.std.proofs.Common.{sym}
use Rattle.base.proofs.ZeroLemmas.{no_zeros}
use Rattle.begin_call.proofs.holding.fresh_pages.Goals as goal

pub returns-in-BuiltIn-clause-zeros : goal.returns-in-BuiltIn-clause-zeros
returns-in-BuiltIn-clause-zeros c = rw c.in-BuiltIn.is (sym no_zeros)
