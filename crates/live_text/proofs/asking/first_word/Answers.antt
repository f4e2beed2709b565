use Rattle.trace_text.proofs.Pieces.{some_word}
use Rattle.live_text.proofs.asking.first_word.Goals as goal

pub word-requires : goal.word-requires
word-requires c = some_word c.args.line.now c.of-words.result c.of-words.ensures
