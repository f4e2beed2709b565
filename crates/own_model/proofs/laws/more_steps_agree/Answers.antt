use Rattle.own_model.proofs.MoreSteps.{more_steps_agree as law}
use Rattle.own_model.proofs.laws.more_steps_agree.Goals as goal

pub returns : goal.returns
returns c = law
