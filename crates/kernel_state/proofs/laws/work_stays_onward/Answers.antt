use Rattle.kernel_state.proofs.Others.{work_stays_onward as law}
use Rattle.kernel_state.proofs.laws.work_stays_onward.Goals as goal

pub returns : goal.returns
returns c = law
