use Rattle.realm_model.proofs.TwoWorlds.{same_realm_replies as law}
use Rattle.realm_model.proofs.histories.same_events_of_realms_get_same_replies.Goals as goal

pub returns : goal.returns
returns c = law
