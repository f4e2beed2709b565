use Rattle.realm_model.proofs.SessionEvents.{session_events_are_realms as law}
use Rattle.realm_model.proofs.realms.session_events_are_realms.Goals as goal

pub returns : goal.returns
returns c = law
