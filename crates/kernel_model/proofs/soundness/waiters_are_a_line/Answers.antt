use Rattle.kernel_model.proofs.SoundLine.{kernels_in_line as law}
use Rattle.kernel_model.proofs.soundness.waiters_are_a_line.Goals as goal

pub returns : goal.returns
returns c = law
