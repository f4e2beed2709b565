use Rattle.std.proofs.Common.{arith}
use Rattle.answer_lines.proofs.PairTable.{pair_at}
use Rattle.answer_lines.proofs.digits.pair_of.Goals as goal

pub returns : goal.returns
returns c = rw c.from.ensures (pair_at c.args.byte (omega arith))
