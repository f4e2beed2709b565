-- An interrupted read moves nothing.
use Rattle.std.specs.Io.KnownBytes.{Keeps}
use Rattle.line_port.proofs.line_reader.read.Given as goal

abbrev pub invariant-loop : goal.invariant-loop
invariant-loop g l = Keeps (g.R.Read.remaining l.initial.reader) (g.R.Read.remaining l.reader)
