use Rattle.ordered_play.proofs.Unique.{parts_are_unique}
use Rattle.ordered_play.proofs.laws.parts_are_unique.Goals as goal

pub returns : goal.returns
returns c = parts_are_unique
