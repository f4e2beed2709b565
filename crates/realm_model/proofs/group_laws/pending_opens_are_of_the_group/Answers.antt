use Rattle.realm_model.proofs.GroupMembers.{pending_of_group as law}
use Rattle.realm_model.proofs.group_laws.pending_opens_are_of_the_group.Goals as goal

pub returns : goal.returns
returns c = law
