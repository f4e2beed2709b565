use Rattle.realm_model.proofs.SessionsKnown.{pending_known as law}
use Rattle.realm_model.proofs.session_laws.pending_opens_are_known.Goals as goal

pub returns : goal.returns
returns c = law
