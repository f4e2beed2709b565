use Rattle.kernel_model.proofs.SoundPins.{kernels_pinned as law}
use Rattle.kernel_model.proofs.soundness.pins_are_of_calls.Goals as goal

pub returns : goal.returns
returns c = law
