use Rattle.std.proofs.Common.{arith}
use Rattle.trace_text.proofs.PlainLines.{has_read_all, has_read_more}
use Rattle.trace_text.proofs.plain.registers.Goals as goal

pub loop-place-preserved : goal.loop-place-preserved
loop-place-preserved c =
    has_read_more c.args.line.now c.loop-place.place c.loop-place.regs c.loop-place.rest.now c.in_ok-number.number c.in_ok-number.behind.now c.loop-place-test.true c.loop-place.invariant c.in_ok-number.ensures

pub returns : goal.returns
returns c =
    has_read_all c.args.line.now c.loop-place.place c.loop-place.regs c.loop-place.rest.now c.in_ok-short_hexadecimal.field-0 (omega arith) c.loop-place.invariant c.in_ok-short_hexadecimal.ensures
