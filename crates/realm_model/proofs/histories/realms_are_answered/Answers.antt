use Rattle.realm_model.proofs.Answered.{realms_answered as law}
use Rattle.realm_model.proofs.histories.realms_are_answered.Goals as goal

pub returns : goal.returns
returns c = law
