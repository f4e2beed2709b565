use Rattle.realm_model.proofs.GroupBeginnings.{same_beginnings as law}
use Rattle.realm_model.proofs.group_laws.same_group_beginnings_get_same_replies.Goals as goal

pub returns : goal.returns
returns c = law
