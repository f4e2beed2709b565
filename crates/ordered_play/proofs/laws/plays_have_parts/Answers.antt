use Rattle.ordered_play.proofs.PartsOfPlay.{plays_have_parts}
use Rattle.ordered_play.proofs.laws.plays_have_parts.Goals as goal

pub returns : goal.returns
returns c = plays_have_parts
