use Rattle.realm_model.proofs.Boots.{boots_tied as law}
use Rattle.realm_model.proofs.ties.boots_are_tied.Goals as goal

pub returns : goal.returns
returns c = law
