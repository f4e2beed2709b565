use Rattle.client_play.proofs.Going.{runs_stop}
use Rattle.client_play.proofs.laws.runs_stop.Goals as goal

pub returns : goal.returns
returns c = runs_stop
