use Rattle.threads_play.proofs.Staying.{ends_stay as law}
use Rattle.threads_play.proofs.laws.ends_stay.Goals as goal

pub returns : goal.returns
returns c = law
