-- What stands before the line feed, or all where there is none.
use Rattle.line_port.proofs.Lines.{cut-taken, uncut-taken}
use Rattle.line_port.proofs.line_reader.take_from.Goals as goal

pub returns-in_ok-add_part-in-Some-clause-takes : goal.returns-in_ok-add_part-in-Some-clause-takes
returns-in_ok-add_part-in-Some-clause-takes c =
    cut-taken _ _ _ _ _ _ _ c.in-Some.ensures c.in_ok-add_part-in-Some.ensures

pub returns-in_ok-add_part-in-None-clause-takes : goal.returns-in_ok-add_part-in-None-clause-takes
returns-in_ok-add_part-in-None-clause-takes c = uncut-taken _ _ _ _ _ c.in-None.ensures c.in_ok-add_part-in-None.ensures

pub returns-in_ok-add_part-in-None-clause-whole : goal.returns-in_ok-add_part-in-None-clause-whole
returns-in_ok-add_part-in-None-clause-whole c = λ holds. absurd (holds c.in-None.ensures)
