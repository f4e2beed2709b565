use Rattle.threads_play.proofs.Gathering.{ends_gather as law}
use Rattle.threads_play.proofs.laws.ends_gather.Goals as goal

pub returns : goal.returns
returns c = law
