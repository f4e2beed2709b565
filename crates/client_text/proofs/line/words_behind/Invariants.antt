use Rattle.std.proofs.Common.{◌≡◌, drop}
use Rattle.text_lines.specs.Words.{words_of}
use Rattle.client_text.proofs.line.words_behind.Given as goal

abbrev pub invariant-loop : goal.invariant-loop
invariant-loop l = l.words ≡ drop l.counter (words_of l.line)
