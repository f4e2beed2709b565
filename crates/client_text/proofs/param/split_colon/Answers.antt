use Rattle.text_lines.proofs.Cuts.{Lacks-more, Lacks-all}
use Rattle.client_text.proofs.param.split_colon.Goals as goal

pub loop-end-preserved : goal.loop-end-preserved
loop-end-preserved c = Lacks-more 58 c.args.word.now c.loop-end.end c.loop-end-test.true c.if-byte-eq58.false c.loop-end.invariant

pub returns : goal.returns
returns c = Lacks-all 58 c.args.word.now c.loop-end.end c.loop-end-test.false c.loop-end.invariant
