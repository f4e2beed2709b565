use Rattle.ta_step.proofs.StepsUsed.{runs-use}
use Rattle.ta_step.proofs.laws.steps_of_runs.Goals as goal

pub returns : goal.returns
returns c = runs-use
