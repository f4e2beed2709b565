use Rattle.notify_play.proofs.Following.{other_exits_stay as law}
use Rattle.notify_play.proofs.laws.other_exits_stay.Goals as goal

pub returns : goal.returns
returns c = law
