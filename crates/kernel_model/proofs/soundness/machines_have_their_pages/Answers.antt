use Rattle.kernel_model.proofs.SoundPages.{machines_paged as law}
use Rattle.kernel_model.proofs.soundness.machines_have_their_pages.Goals as goal

pub returns : goal.returns
returns c = law
