use Rattle.ordered_play.proofs.BlocksMerged.{blocks_merge}
use Rattle.ordered_play.proofs.laws.blocks_merge.Goals as goal

pub returns : goal.returns
returns c = blocks_merge
