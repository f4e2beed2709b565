use Rattle.ordered_play.proofs.Longer.{parts_stay}
use Rattle.ordered_play.proofs.laws.parts_stay.Goals as goal

pub returns : goal.returns
returns c = parts_stay
