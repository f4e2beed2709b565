use Rattle.ordered_play.proofs.Growing.{parts_grow}
use Rattle.ordered_play.proofs.laws.parts_grow.Goals as goal

pub returns : goal.returns
returns c = parts_grow
