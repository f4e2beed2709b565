use Rattle.kernel_model.proofs.SoundSteps.{steps_of_entries as law}
use Rattle.kernel_model.proofs.soundness.steps_are_of_entries.Goals as goal

pub returns : goal.returns
returns c = law
