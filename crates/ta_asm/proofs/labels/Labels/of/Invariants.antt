use Rattle.std.proofs.Common.{◌≡◌, ◌≤◌, length, take, drop}
use Rattle.ta_asm.specs.Lines.{statements_of}
use Rattle.ta_asm.specs.Reading.{Defines, IsLastIn}
use Rattle.ta_asm.proofs.Definitions.{count_of}
use Rattle.ta_asm.proofs.labels.Labels.of.Given as goal

abbrev pub invariant-loop-statement : goal.invariant-loop-statement
invariant-loop-statement l = record {
  left : drop l.lines (statements_of l.fn.text) ≡ l.statements;
  within : l.lines ≤ length (statements_of l.fn.text);
  placed : l.place ≡ count_of (take l.lines (statements_of l.fn.text));
  fewer : l.place ≤ l.lines;
  noted : Defines l.map (take l.lines (statements_of l.fn.text));
  below : l.last ≤ l.lines;
  found : IsLastIn (take l.lines (statements_of l.fn.text)) l.last;
}

abbrev pub decreases-loop-statement : goal.decreases-loop-statement
decreases-loop-statement l = length l.statements
