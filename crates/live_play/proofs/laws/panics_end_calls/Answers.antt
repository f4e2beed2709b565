use Rattle.live_play.proofs.Panicked.{panics_end_calls as law}
use Rattle.live_play.proofs.laws.panics_end_calls.Goals as goal

pub returns : goal.returns
returns c = law
