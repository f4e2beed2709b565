use Rattle.job_model.proofs.JobSteps.{stop_at-sum}
use Rattle.job_model.proofs.laws.stops_add_up.Goals as goal

pub returns : goal.returns
returns c = stop_at-sum
