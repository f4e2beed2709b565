use Rattle.client_play.proofs.Told.{results_are_told_alone as law}
use Rattle.client_play.proofs.laws.results_are_told_alone.Goals as goal

pub returns : goal.returns
returns c = law
