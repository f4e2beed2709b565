use Rattle.realm_model.proofs.Answered.{groups_answered as law}
use Rattle.realm_model.proofs.group_laws.groups_are_answered_as_alone.Goals as goal

pub returns : goal.returns
returns c = law
