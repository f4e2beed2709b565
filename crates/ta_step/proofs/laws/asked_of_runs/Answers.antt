use Rattle.ta_step.proofs.Kept.{runs-waits}
use Rattle.ta_step.proofs.laws.asked_of_runs.Goals as goal

pub returns : goal.returns
returns c = runs-waits
