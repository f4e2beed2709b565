use Rattle.kernel_state.proofs.CoreEvents.{journals_legal as law}
use Rattle.kernel_state.proofs.laws.journals_stay_legal.Goals as goal

pub returns : goal.returns
returns c = law
