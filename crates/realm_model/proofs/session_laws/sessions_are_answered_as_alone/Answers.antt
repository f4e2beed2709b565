use Rattle.realm_model.proofs.AloneAnswered.{alone_answered as law}
use Rattle.realm_model.proofs.session_laws.sessions_are_answered_as_alone.Goals as goal

pub returns : goal.returns
returns c = law
