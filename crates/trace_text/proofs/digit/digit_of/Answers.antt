use Rattle.std.proofs.Common.{arith}
use Rattle.trace_text.proofs.DigitTable.{table_at}
use Rattle.trace_text.proofs.digit.digit_of.Goals as goal

pub returns : goal.returns
returns c = rw c.from.ensures (table_at c.args.byte (omega arith))
