use Rattle.realm_model.proofs.CallsInRealms.{calls_in_realms as law}
use Rattle.realm_model.proofs.one_law.calls_are_in_realms.Goals as goal

pub returns : goal.returns
returns c = law
