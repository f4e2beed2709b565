use Rattle.kernel_model.proofs.SoundNumbers.{kernels_numbered as law}
use Rattle.kernel_model.proofs.soundness.numbers_are_given.Goals as goal

pub returns : goal.returns
returns c = law
