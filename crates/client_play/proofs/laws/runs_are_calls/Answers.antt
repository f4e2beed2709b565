use Rattle.client_play.proofs.Going.{runs_are_calls}
use Rattle.client_play.proofs.laws.runs_are_calls.Goals as goal

pub returns : goal.returns
returns c = runs_are_calls
