use Rattle.client_play.proofs.Made.{calls_are_made_alike}
use Rattle.client_play.proofs.laws.calls_are_made_alike.Goals as goal

pub returns : goal.returns
returns c = calls_are_made_alike
