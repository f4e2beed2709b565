use Rattle.realm_model.proofs.SessionBeginnings.{same_beginnings as law}
use Rattle.realm_model.proofs.session_laws.same_beginnings_get_same_replies.Goals as goal

pub returns : goal.returns
returns c = law
