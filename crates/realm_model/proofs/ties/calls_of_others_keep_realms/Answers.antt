use Rattle.realm_model.proofs.OtherEntries.{other_call as law}
use Rattle.realm_model.proofs.ties.calls_of_others_keep_realms.Goals as goal

pub returns : goal.returns
returns c = law
