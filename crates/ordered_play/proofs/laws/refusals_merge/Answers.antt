use Rattle.ordered_play.proofs.Merged.{refusals_merge}
use Rattle.ordered_play.proofs.laws.refusals_merge.Goals as goal

pub returns : goal.returns
returns c = refusals_merge
