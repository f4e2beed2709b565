use Rattle.realm_model.proofs.GroupBeginnings.{same_events as law}
use Rattle.realm_model.proofs.group_laws.same_group_events_get_same_replies.Goals as goal

pub returns : goal.returns
returns c = law
