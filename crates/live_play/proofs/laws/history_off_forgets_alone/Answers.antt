use Rattle.live_play.proofs.Forgetting.{history_off_forgets_alone as law}
use Rattle.live_play.proofs.laws.history_off_forgets_alone.Goals as goal

pub returns : goal.returns
returns c = law
