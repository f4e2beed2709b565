use Rattle.notify_play.proofs.Following.{steps_are_played as law}
use Rattle.notify_play.proofs.laws.steps_are_played.Goals as goal

pub returns : goal.returns
returns c = law
