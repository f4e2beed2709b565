use Rattle.kernel_model.proofs.Past.{exits_follow}
use Rattle.kernel_model.proofs.laws.exits_follow_from_the_past.Goals as goal

pub returns : goal.returns
returns c = exits_follow
