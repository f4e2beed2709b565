use Rattle.client_play.proofs.Following.{smcs_are_served}
use Rattle.client_play.proofs.laws.smcs_are_served.Goals as goal

pub returns : goal.returns
returns c = smcs_are_served
