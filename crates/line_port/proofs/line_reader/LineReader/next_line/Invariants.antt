-- The parts so far, by which no fault was counted. While a whole line was pending no part comes before the last one.
use Rattle.std.proofs.Common.{◌≡◌}
use Rattle.line_port.specs.Gathering.{IsSoFar}
use Rattle.line_port.specs.Pending.{left}
use Rattle.text_lines.specs.Lines.{Lacks}
use Rattle.line_port.proofs.line_reader.LineReader.next_line.Given as goal

abbrev pub invariant-loop : goal.invariant-loop
invariant-loop g l = record {
  parts : IsSoFar (left g.R.Read.remaining l.fn.self) (left g.R.Read.remaining l.self) l.is_long l.line.items;
  pending : (Lacks 10 l.fn.self.pending → ⊥) → l.self.pending ≡ l.fn.self.pending;
  reader : (Lacks 10 l.fn.self.pending → ⊥) → l.self.reader ≡ l.fn.self.reader;
  faults : l.self.faults ≡ l.fn.self.faults;
}
