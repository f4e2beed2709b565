use Rattle.kernel_model.proofs.SoundFew.{at_most_80 as law}
use Rattle.kernel_model.proofs.soundness.instances_are_at_most_80.Goals as goal

pub returns : goal.returns
returns c = law
