use Rattle.realm_model.proofs.SessionCalls.{calls_in_logs as law}
use Rattle.realm_model.proofs.session_laws.calls_are_in_logs.Goals as goal

pub returns : goal.returns
returns c = law
