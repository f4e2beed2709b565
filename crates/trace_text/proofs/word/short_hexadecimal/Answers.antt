use Rattle.std.proofs.Common.{arith}
use Rattle.trace_text.proofs.Digits.{hexadecimal_fits}
use Rattle.trace_text.proofs.word.short_hexadecimal.Goals as goal

pub overflow_cast-result : goal.overflow_cast-result
overflow_cast-result c = omega (arith, hexadecimal_fits c.args.word.now c.in_ok-number.number c.in_ok-number.ensures)
