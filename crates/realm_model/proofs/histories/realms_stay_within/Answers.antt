use Rattle.realm_model.proofs.Answered.{realms_within as law}
use Rattle.realm_model.proofs.histories.realms_stay_within.Goals as goal

pub returns : goal.returns
returns c = law
