use Rattle.threads_play.proofs.Merging.{ends_merge as law}
use Rattle.threads_play.proofs.laws.ends_merge.Goals as goal

pub returns : goal.returns
returns c = law
