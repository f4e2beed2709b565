use Rattle.audit.proofs.SoundBoots.{read_boots_can_be_checked as law}
use Rattle.audit.proofs.laws.read_boots_can_be_checked.Goals as goal

pub returns : goal.returns
returns c = law
