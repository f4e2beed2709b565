use Rattle.word_parts.proofs.Serving.{faults-told}
use Rattle.alone_runner.proofs.serving.answer_trace.Goals as goal

pub returns-clause-faults : goal.returns-clause-faults
returns-clause-faults g c =
    faults-told c.play.result c.status_of.result _ _ c.status_of.ensures c.play.ensures.faults
