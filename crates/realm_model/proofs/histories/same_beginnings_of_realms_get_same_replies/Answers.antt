use Rattle.realm_model.proofs.Beginnings.{same_beginnings as law}
use Rattle.realm_model.proofs.histories.same_beginnings_of_realms_get_same_replies.Goals as goal

pub returns : goal.returns
returns c = law
