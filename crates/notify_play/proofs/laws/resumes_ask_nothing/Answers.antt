use Rattle.notify_play.proofs.Following.{resumes_ask_nothing as law}
use Rattle.notify_play.proofs.laws.resumes_ask_nothing.Goals as goal

pub returns : goal.returns
returns c = law
