use Rattle.kernel_model.proofs.SoundNumbers.{numbers_rise as law}
use Rattle.kernel_model.proofs.soundness.numbers_rise.Goals as goal

pub returns : goal.returns
returns c = law
