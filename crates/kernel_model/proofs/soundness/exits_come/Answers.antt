use Rattle.kernel_model.proofs.SoundRunning.{exits_come as law}
use Rattle.kernel_model.proofs.soundness.exits_come.Goals as goal

pub returns : goal.returns
returns c = law
