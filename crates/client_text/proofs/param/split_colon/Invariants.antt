use Rattle.std.proofs.Common.{take}
use Rattle.text_lines.specs.Lines.{Lacks}
use Rattle.client_text.proofs.param.split_colon.Given as goal

abbrev pub invariant-loop-end : goal.invariant-loop-end
invariant-loop-end l = Lacks 58 (take l.end l.word)
