use Rattle.realm_model.proofs.SessionsKnown.{kept_sessions_known as law}
use Rattle.realm_model.proofs.session_laws.kept_sessions_are_known.Goals as goal

pub returns : goal.returns
returns c = law
