use Rattle.kernel_model.proofs.SoundRequests.{calls_fit as law}
use Rattle.kernel_model.proofs.soundness.requests_fit.Goals as goal

pub returns : goal.returns
returns c = law
