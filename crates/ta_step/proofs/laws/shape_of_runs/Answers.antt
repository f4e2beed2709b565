use Rattle.ta_step.proofs.Kept.{runs-kept}
use Rattle.ta_step.proofs.laws.shape_of_runs.Goals as goal

pub returns : goal.returns
returns c = runs-kept
