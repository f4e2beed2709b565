-- What was taken of the reader is gone from what is left, and the writer was left alone.
use Rattle.std.proofs.Common.{refl}
use Rattle.line_port.proofs.Tells.{hears-taken}
use Rattle.line_port.proofs.std_port.StdPortPort.hear.Goals as goal

pub returns-clause-heard : goal.returns-clause-heard
returns-clause-heard g c =
    rw (← c.self.view_is) (hears-taken c.next_line-heard.result c.next_line-heard.new.line.items _ _
    (g.W.Write.contents c.self.inside.sink.writer) _ c.next_line-heard.ensures.takes refl)
