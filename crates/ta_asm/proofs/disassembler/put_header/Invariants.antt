use Rattle.std.proofs.Common.{◌≡◌, ◌++◌, drop}
use Rattle.ta_asm.proofs.Output.{entry_lines}
use Rattle.ta_asm.proofs.disassembler.put_header.Given as goal

abbrev pub invariant-loop-number : goal.invariant-loop-number
invariant-loop-number l = l.out.items ++ entry_lines (λ before. before.now) (drop l.number l.before-items) l.number l.image.entries ≡ l.initial.out.items ++ entry_lines (λ before. before.now) l.before-items 0 l.image.entries
