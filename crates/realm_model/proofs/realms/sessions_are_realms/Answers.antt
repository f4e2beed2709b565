use Rattle.realm_model.proofs.Sessions.{sessions_are_realms as law}
use Rattle.realm_model.proofs.realms.sessions_are_realms.Goals as goal

pub returns : goal.returns
returns c = law
