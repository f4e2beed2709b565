use Rattle.std.proofs.Common.{arith}
use Rattle.trace_text.proofs.HexDigits.{pair_there}
use Rattle.trace_text.proofs.digit.byte_of.Goals as goal

pub returns : goal.returns
returns c = λ place.
    pair_there c.args.high c.args.low c.digit_of-high.result c.digit_of-low.result place (omega arith) (omega arith) c.digit_of-high.ensures c.digit_of-low.ensures c.if-high-ge16.false c.if-low-ge16.false
