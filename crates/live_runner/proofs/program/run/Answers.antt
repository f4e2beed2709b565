-- The status is that of the end of one conversation, whose faults the port counted.
use Rattle.live_runner.proofs.Counted.{faults-counted}
use Rattle.live_runner.proofs.program.run.Goals as goal

pub returns-else-has_words-clause-counts : goal.returns-else-has_words-clause-counts
returns-else-has_words-clause-counts g c = λ none.
    faults-counted c.live.result c.status_of.result _ _ c.status_of.ensures c.live.ensures.faults
