use Rattle.notify_play.proofs.Limit.{limit_is_the_kernels}
use Rattle.notify_play.proofs.laws.limit_is_the_kernels.Goals as goal

pub returns : goal.returns
returns c = limit_is_the_kernels
