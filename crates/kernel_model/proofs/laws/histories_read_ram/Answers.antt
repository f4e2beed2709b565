use Rattle.kernel_model.proofs.ReadsOfRam.{histories_read_ram as law}
use Rattle.kernel_model.proofs.laws.histories_read_ram.Goals as goal

pub returns : goal.returns
returns c = law
