use Rattle.kernel_model.proofs.SoundSteps.{steps_granted}
use Rattle.kernel_model.proofs.soundness.steps_are_granted.Goals as goal

pub returns : goal.returns
returns c = steps_granted
