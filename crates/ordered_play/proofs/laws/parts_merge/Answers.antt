use Rattle.ordered_play.proofs.Merged.{parts_merge}
use Rattle.ordered_play.proofs.laws.parts_merge.Goals as goal

pub returns : goal.returns
returns c = parts_merge
