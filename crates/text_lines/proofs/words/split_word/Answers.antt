use Rattle.text_lines.proofs.Cuts.{Lacks-more, Lacks-all}
use Rattle.text_lines.proofs.words.split_word.Goals as goal

pub loop-end-preserved : goal.loop-end-preserved
loop-end-preserved c = Lacks-more 32 c.args.line.now c.loop-end.end c.loop-end-test.true c.if-byte-eq32.false c.loop-end.invariant

pub returns : goal.returns
returns c = Lacks-all 32 c.args.line.now c.loop-end.end c.loop-end-test.false c.loop-end.invariant
