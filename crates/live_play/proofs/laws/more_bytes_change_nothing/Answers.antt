use Rattle.live_play.proofs.ShownAlike.{more_bytes_change_nothing as law}
use Rattle.live_play.proofs.laws.more_bytes_change_nothing.Goals as goal

pub returns : goal.returns
returns c = law
