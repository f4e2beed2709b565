use Rattle.job_model.proofs.JobSteps.{one_stop}
use Rattle.job_model.proofs.laws.one_stop.Goals as goal

pub returns : goal.returns
returns c = one_stop
