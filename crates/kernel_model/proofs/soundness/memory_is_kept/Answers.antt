use Rattle.kernel_model.proofs.SoundMemory.{kernels_in_memory as law}
use Rattle.kernel_model.proofs.soundness.memory_is_kept.Goals as goal

pub returns : goal.returns
returns c = law
