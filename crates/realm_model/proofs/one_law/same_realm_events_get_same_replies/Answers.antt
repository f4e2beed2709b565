use Rattle.realm_model.proofs.OneLaw.{same_realm_replies as law}
use Rattle.realm_model.proofs.one_law.same_realm_events_get_same_replies.Goals as goal

pub returns : goal.returns
returns c = law
