use Rattle.realm_model.proofs.Groups.{groups_are_realms as law}
use Rattle.realm_model.proofs.realms.groups_are_realms.Goals as goal

pub returns : goal.returns
returns c = law
