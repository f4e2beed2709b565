use Rattle.kernel_model.proofs.SoundWork.{others_stay_away as law}
use Rattle.kernel_model.proofs.soundness.others_stay_away.Goals as goal

pub returns : goal.returns
returns c = law
