use Rattle.notify_play.proofs.Ordered.{steps_hold_in_order as law}
use Rattle.notify_play.proofs.laws.steps_hold_in_order.Goals as goal

pub returns : goal.returns
returns c = law
