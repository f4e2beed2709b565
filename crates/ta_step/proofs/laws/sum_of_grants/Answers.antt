use Rattle.ta_step.proofs.Grants.{runs-sum}
use Rattle.ta_step.proofs.laws.sum_of_grants.Goals as goal

pub returns : goal.returns
returns c = runs-sum
