use Rattle.kernel_model.proofs.SoundOrder.{kernels_in_order as law}
use Rattle.kernel_model.proofs.soundness.tables_are_in_order.Goals as goal

pub returns : goal.returns
returns c = law
