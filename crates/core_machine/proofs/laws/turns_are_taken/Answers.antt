use Rattle.core_machine.proofs.Stands.{turns_are_taken as law}
use Rattle.core_machine.proofs.laws.turns_are_taken.Goals as goal

pub returns : goal.returns
returns c = law
