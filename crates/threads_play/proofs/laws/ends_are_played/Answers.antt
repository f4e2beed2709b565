use Rattle.threads_play.proofs.Works.{ends_are_played as law}
use Rattle.threads_play.proofs.laws.ends_are_played.Goals as goal

pub returns : goal.returns
returns c = law c.ends_gather.ensures c.ends_merge.ensures
