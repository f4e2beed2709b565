use Rattle.job_model.proofs.JobSteps.{granted-IsGrant}
use Rattle.job_model.proofs.laws.grants_take_on.Goals as goal

pub returns : goal.returns
returns c = granted-IsGrant
