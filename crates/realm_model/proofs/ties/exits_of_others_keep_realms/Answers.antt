use Rattle.realm_model.proofs.OtherExits.{other_exit as law}
use Rattle.realm_model.proofs.ties.exits_of_others_keep_realms.Goals as goal

pub returns : goal.returns
returns c = law
