use Rattle.kernel_state.proofs.Others.{works_can_leave as law}
use Rattle.kernel_state.proofs.laws.work_can_leave.Goals as goal

pub returns : goal.returns
returns c = law
