use Rattle.kernel_model.proofs.SoundWork.{kernels_at_work}
use Rattle.kernel_model.proofs.soundness.processors_work_on_their_slots.Goals as goal

pub returns : goal.returns
returns c = kernels_at_work
