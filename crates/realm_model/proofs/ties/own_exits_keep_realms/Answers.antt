use Rattle.realm_model.proofs.OwnExits.{own_exit as law}
use Rattle.realm_model.proofs.ties.own_exits_keep_realms.Goals as goal

pub returns : goal.returns
returns c = law
