use Rattle.ta_asm.proofs.Output.{entry_line_more, header_is, header_text}
use Rattle.ta_asm.proofs.disassembler.put_header.Goals as goal

pub loop-number-preserved : goal.loop-number-preserved
loop-number-preserved c =
    entry_line_more (λ before. before.now) _ c.loop-number.number _ c.args.image.now.entries _ _ _ c.loop-number-test.true c.in_ok-put_line-3.ensures c.loop-number.invariant

pub returns : goal.returns
returns c =
    header_is (λ before. before.now) _ c.args.out.now.items _ _ _ c.args.image.now c.loop-number.number (header_text c.args.image.now) c.in_ok-put_line.ensures c.in_ok-put_line-2.ensures
    c.loop-number-test.false c.loop-number.invariant
