use Rattle.core_machine.proofs.Stands.{machines_stand as law}
use Rattle.core_machine.proofs.laws.machines_stand.Goals as goal

pub returns : goal.returns
returns c = law
