use Rattle.client_play.proofs.Going.{runs_fail}
use Rattle.client_play.proofs.laws.runs_fail.Goals as goal

pub returns : goal.returns
returns c = runs_fail
