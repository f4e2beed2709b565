use Rattle.realm_model.proofs.GroupMembers.{kept_of_group as law}
use Rattle.realm_model.proofs.group_laws.kept_sessions_are_of_the_group.Goals as goal

pub returns : goal.returns
returns c = law
