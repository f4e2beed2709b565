use Rattle.live_play.proofs.Watched.{exits_are_watched}
use Rattle.live_play.proofs.laws.exits_are_watched.Goals as goal

pub returns : goal.returns
returns c = exits_are_watched
