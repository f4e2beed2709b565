use Rattle.live_play.proofs.Changing.{changes_tell_all}
use Rattle.live_play.proofs.laws.changes_tell_all.Goals as goal

pub returns : goal.returns
returns c = changes_tell_all
