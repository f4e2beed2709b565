use Rattle.live_play.proofs.Talking.{turns_are_told as law}
use Rattle.live_play.proofs.laws.turns_are_told.Goals as goal

pub returns : goal.returns
returns c = law
