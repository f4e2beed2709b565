use Rattle.job_model.proofs.SeenCancel.{cancel_stays_seen as law}
use Rattle.job_model.proofs.laws.cancel_stays_seen.Goals as goal

pub returns : goal.returns
returns c = law
