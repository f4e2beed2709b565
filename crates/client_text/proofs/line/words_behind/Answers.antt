use Rattle.std.proofs.Common.{[], arith}
use Rattle.std.proofs.lemmas.List.{drop_more}
use Rattle.text_lines.specs.Words.{words_of}
use Rattle.client_text.proofs.line.words_behind.Goals as goal

pub loop-preserved : goal.loop-preserved
loop-preserved c =
    let more = drop_more (words_of c.args.line.now) c.loop.counter [] (omega (arith, c.loop-test.true, c.requires)) in
    cc (more, c.loop.invariant, c.word-before.ensures)
