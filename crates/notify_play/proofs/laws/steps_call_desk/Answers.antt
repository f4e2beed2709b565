use Rattle.notify_play.proofs.Asking.{steps_call_desk as law}
use Rattle.notify_play.proofs.laws.steps_call_desk.Goals as goal

pub returns : goal.returns
returns c = law
