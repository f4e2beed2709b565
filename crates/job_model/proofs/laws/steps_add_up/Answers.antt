use Rattle.job_model.proofs.JobSteps.{after-sum}
use Rattle.job_model.proofs.laws.steps_add_up.Goals as goal

pub returns : goal.returns
returns c = after-sum
