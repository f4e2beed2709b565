use Rattle.job_model.proofs.FittingRequests.{requests_fit as law}
use Rattle.job_model.proofs.laws.requests_fit.Goals as goal

pub returns : goal.returns
returns c = law
