use Rattle.std.proofs.Common.{◌≡◌, true, sym, arith}
use Rattle.trace_text.specs.Rules.{counts}
use Rattle.trace_text.proofs.Pieces.{some_word, words_behind_first}
use Rattle.notify_text.proofs.judging.judge_other.Goals as goal

pub word-first-requires : goal.word-first-requires
word-first-requires c = some_word c.args.line.now c.of-words.result c.of-words.ensures

pub word-second-requires : goal.word-second-requires
word-second-requires c =
    let counted : counts 1 c.of-words.result ≡ true = rw c.of-words.ensures (sym c.if-not-has_words.ensures) in
    omega (arith, words_behind_first 1 c.of-words.result c.word-first.result.now c.word-first.new.self c.word-first.ensures counted)
