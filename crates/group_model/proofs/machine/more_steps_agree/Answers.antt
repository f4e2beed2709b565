use Rattle.group_model.proofs.MoreSteps.{more_steps_agree as law}
use Rattle.group_model.proofs.machine.more_steps_agree.Goals as goal

pub returns : goal.returns
returns c = law
