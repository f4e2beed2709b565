use Rattle.std.proofs.Common.{◌≡◌, length}
use Rattle.text_lines.specs.Words.{words_of}
use Rattle.trace_text.specs.Rules.{word}
use Rattle.client_text.proofs.line.word_at.Given as goal

abbrev pub invariant-loop-word : goal.invariant-loop-word
invariant-loop-word l = word l.words l.left ≡ word (words_of l.line) l.number

abbrev pub decreases-loop-word : goal.decreases-loop-word
decreases-loop-word l = length l.words
