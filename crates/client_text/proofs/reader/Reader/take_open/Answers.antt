use Rattle.std.proofs.Common.{sym}
use Rattle.text_lines.specs.Words.{words_of}
use Rattle.client_text.proofs.Counts.{at_least}
use Rattle.client_text.proofs.reader.Reader.take_open.Goals as goal

pub words_behind-requires : goal.words_behind-requires
words_behind-requires c = at_least 3 7 (words_of c.args.line.now) (sym c.if-not-has_between.ensures)
