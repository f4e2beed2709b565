use Rattle.kernel_model.proofs.SoundSteps.{as_many}
use Rattle.kernel_model.proofs.soundness.slots_are_as_many.Goals as goal

pub returns : goal.returns
returns c = as_many
