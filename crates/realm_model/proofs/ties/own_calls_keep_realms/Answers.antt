use Rattle.realm_model.proofs.OwnEntries.{own_call as law}
use Rattle.realm_model.proofs.ties.own_calls_keep_realms.Goals as goal

pub returns : goal.returns
returns c = law
