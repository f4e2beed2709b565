-- An interrupted flush changes nothing that the writer holds.
use Rattle.std.specs.Io.KnownBytes.{Keeps}
use Rattle.ports.proofs.std_sink.flush.Given as goal

abbrev pub invariant-loop : goal.invariant-loop
invariant-loop g l = Keeps (g.W.Write.contents l.initial.writer) (g.W.Write.contents l.writer)
