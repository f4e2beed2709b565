use Rattle.std.proofs.Common.{◌≡◌, true, sym, ◌∙◌}
use Rattle.text_lines.specs.Words.{words_of}
use Rattle.trace_text.specs.Rules.{counts, words_behind}
use Rattle.trace_text.specs.Statement.{closed_if}
use Rattle.trace_text.proofs.Pieces.{some_word, words_behind_first}
use Rattle.trace_text.proofs.Taking.{skipped_judged, words_judged}
use Rattle.trace_text.proofs.scene.Scene.judge_by_words.Goals as goal

pub word-requires : goal.word-requires
word-requires c = some_word c.args.line.now c.of-words.result c.of-words.ensures

pub judge_words-requires : goal.judge_words-requires
judge_words-requires c =
    let counted : counts (words_behind c.in-Some.kind) c.of-words.result ≡ true = rw (c.of-words.ensures, ← c.words_behind.ensures) (sym c.if-not-has_words.ensures) in
    words_behind_first (words_behind c.in-Some.kind) c.of-words.result c.word.result.now c.word.new.self c.word.ensures counted

pub returns-then-is_skipped : goal.returns-then-is_skipped
returns-then-is_skipped c = skipped_judged c.args.natives.now c.args.self.now c.args.is_closed c.args.line.now (sym c.if-not-is_text.ensures) (sym c.if-is_skipped.ensures)

pub returns : goal.returns
returns c =
    let counted : counts (words_behind c.in-Some.kind) (words_of c.args.line.now) ≡ true = rw (← c.words_behind.ensures) (sym c.if-not-has_words.ensures) in
    words_judged c.args.natives.now (closed_if c.args.is_closed c.args.self.now) c.args.line.now c.in-Some.kind c.word.result.now c.word.new.self c.judge_words.result (sym c.if-not-is_text.ensures) (sym c.if-is_skipped.ensures) (sym c.of-words.ensures ∙ c.word.ensures) (sym c.named.ensures ∙ c.in-Some.is) counted c.judge_words.ensures
