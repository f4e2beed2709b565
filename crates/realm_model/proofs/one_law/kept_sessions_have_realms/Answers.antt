use Rattle.realm_model.proofs.OneLaw.{kept_sessions_have_realms as law}
use Rattle.realm_model.proofs.one_law.kept_sessions_have_realms.Goals as goal

pub returns : goal.returns
returns c = law
