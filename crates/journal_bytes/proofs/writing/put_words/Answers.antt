use Rattle.std.proofs.Common.{arith, refl}
use Rattle.std.proofs.lemmas.List.{get_or_default}
use Rattle.byteorder.specs.Endian.{little_bytes}
use Rattle.trace_bin.proofs.Puts.{put_more}
use Rattle.journal_bytes.proofs.writing.put_words.Goals as goal

pub loop-word-preserved : goal.loop-word-preserved
loop-word-preserved c =
    put_more (little_bytes 4) c.args.words.now c.loop-word.word-index _ _ _ _ _ c.loop-word-test.true refl c.loop-word.invariant c.in_ok-put_word.ensures

pub returns-clause-fit : goal.returns-clause-fit
returns-clause-fit c = λ i d within. omega (arith, get_or_default c.args.words.now i d 0 within, c.type_inv.words i)
