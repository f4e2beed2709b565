use Rattle.client_play.proofs.Preparing.{prepares_alike}
use Rattle.client_play.proofs.laws.prepares_alike.Goals as goal

pub returns : goal.returns
returns c = prepares_alike
