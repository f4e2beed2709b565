use Rattle.kernel_model.proofs.SoundFew.{kernels_few as law}
use Rattle.kernel_model.proofs.soundness.instances_are_few.Goals as goal

pub returns : goal.returns
returns c = law
