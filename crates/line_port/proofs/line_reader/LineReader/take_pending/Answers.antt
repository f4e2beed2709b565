-- What is pending stands in front of what is left.
use Rattle.line_port.proofs.Lines.{taken-pending}
use Rattle.line_port.proofs.line_reader.LineReader.take_pending.Goals as goal

pub returns-clause-takes : goal.returns-clause-takes
returns-clause-takes g c =
    let bytes_are = c.deref.ensures.value in
    let takes = rw bytes_are at c.in_ok-taken.ensures.takes in
    let bound = rw bytes_are at c.in_ok-taken.ensures.bound in
    rw (← c.self.view_is) (taken-pending (g.R.Read.remaining c.self.inside.reader) c.self.inside.chunk.items c.self.inside.at
    c.self.inside.end c.in_ok-taken.taken c.in_ok-taken.part _ _ _ _ c.self.invariant.1 bound c.in_ok-taken.ensures.some takes)
