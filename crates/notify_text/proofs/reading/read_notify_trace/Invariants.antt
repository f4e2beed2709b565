use Rattle.std.proofs.Common.{◌≡◌, ◌≤◌, ◌+◌, length}
use Rattle.line_grammar.specs.Reading.{read_pieces}
use Rattle.notify_text.specs.Grammar.{signal_lines}
use Rattle.trace_text.specs.Grammar.{pieces_of}
use Rattle.notify_text.specs.Rules.{no_lines}
use Rattle.notify_text.specs.Statement.{HasBootOfSignals}
use Rattle.notify_text.proofs.reading.read_notify_trace.Given as goal

abbrev pub invariant-loop-line : goal.invariant-loop-line
invariant-loop-line l = record {
  so_far : read_pieces (signal_lines l.natives) l.place l.reader (pieces_of l.rest) ≡ read_pieces (signal_lines l.natives) 1 no_lines (pieces_of l.text);
  booted : HasBootOfSignals l.reader;
  few : l.place + length l.rest ≤ length l.text + 1;
}

abbrev pub decreases-loop-line : goal.decreases-loop-line
decreases-loop-line l = length l.rest
