use Rattle.std.proofs.Common.{◌≡◌, ◌≤◌, length, take, drop}
use Rattle.ta_asm.specs.Grammar.{program_of}
use Rattle.ta_asm.specs.Lines.{statements_of}
use Rattle.ta_asm.proofs.Programs.{AreFaultless}
use Rattle.ta_asm.proofs.assembler.assembled.Given as goal

abbrev pub invariant-loop-statement : goal.invariant-loop-statement
invariant-loop-statement l = record {
  left : drop l.lines (statements_of l.fn.text) ≡ l.statements;
  within : l.lines ≤ length (statements_of l.fn.text);
  built : l.draft ≡ program_of (statements_of l.fn.text) (take l.lines (statements_of l.fn.text));
  faultless : AreFaultless (statements_of l.fn.text) l.lines;
}

abbrev pub decreases-loop-statement : goal.decreases-loop-statement
decreases-loop-statement l = length l.statements
