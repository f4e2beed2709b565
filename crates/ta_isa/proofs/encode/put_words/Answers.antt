use Rattle.std.proofs.Common.{refl}
use Rattle.ta_isa.specs.Spelling.{word}
use Rattle.ta_isa.proofs.Words.{put_next}
use Rattle.ta_isa.proofs.encode.put_words.Goals as goal

pub loop-number-preserved : goal.loop-number-preserved
loop-number-preserved c =
    put_next word c.args.numbers.now c.loop-number.number-index _ 0 c.args.out.now.items c.loop-number.out.items _ c.loop-number-test.true refl c.loop-number.invariant c.in_ok-put_word.ensures
