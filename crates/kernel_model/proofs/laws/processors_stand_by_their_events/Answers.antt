use Rattle.kernel_model.proofs.StandingBy.{stand_by_their_events as law}
use Rattle.kernel_model.proofs.laws.processors_stand_by_their_events.Goals as goal

pub returns : goal.returns
returns c = law
