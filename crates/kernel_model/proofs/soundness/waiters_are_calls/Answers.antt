use Rattle.kernel_model.proofs.SoundWaiters.{kernels_waiting as law}
use Rattle.kernel_model.proofs.soundness.waiters_are_calls.Goals as goal

pub returns : goal.returns
returns c = law
