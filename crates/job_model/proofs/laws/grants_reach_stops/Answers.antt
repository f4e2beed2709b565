use Rattle.job_model.proofs.JobSteps.{stop-granted}
use Rattle.job_model.proofs.laws.grants_reach_stops.Goals as goal

pub returns : goal.returns
returns c = stop-granted
