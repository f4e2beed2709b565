use Rattle.kernel_state.proofs.Others.{works_stay as law}
use Rattle.kernel_state.proofs.laws.work_stays.Goals as goal

pub returns : goal.returns
returns c = law
