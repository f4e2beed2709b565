use Rattle.live_play.proofs.Ended.{ended_calls_stay as law}
use Rattle.live_play.proofs.laws.ended_calls_stay.Goals as goal

pub returns : goal.returns
returns c = law
