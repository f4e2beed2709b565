use Rattle.std.proofs.Common.{take}
use Rattle.text_lines.specs.Lines.{Lacks}
use Rattle.text_lines.proofs.words.split_word.Given as goal

abbrev pub invariant-loop-end : goal.invariant-loop-end
invariant-loop-end l = Lacks 32 (take l.end l.line)
