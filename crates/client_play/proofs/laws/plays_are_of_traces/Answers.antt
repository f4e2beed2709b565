use Rattle.client_play.proofs.OfTraces.{plays_are_of_traces as law}
use Rattle.client_play.proofs.laws.plays_are_of_traces.Goals as goal

pub returns : goal.returns
returns c = law
