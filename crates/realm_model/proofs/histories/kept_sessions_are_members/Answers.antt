use Rattle.realm_model.proofs.KeptSessions.{kept_sessions_have_realms as law}
use Rattle.realm_model.proofs.histories.kept_sessions_are_members.Goals as goal

pub returns : goal.returns
returns c = law
