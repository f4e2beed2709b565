use Rattle.kernel_model.proofs.SoundMemory.{frames_add_up as law}
use Rattle.kernel_model.proofs.soundness.frames_are_free_or_used.Goals as goal

pub returns : goal.returns
returns c = law
