use Rattle.kernel_model.proofs.SoundCallsJoined.{kernels_joined as law}
use Rattle.kernel_model.proofs.soundness.calls_fit_their_tables.Goals as goal

pub returns : goal.returns
returns c = law
