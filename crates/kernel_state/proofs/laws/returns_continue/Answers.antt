use Rattle.kernel_state.proofs.Answering.{returns as law}
use Rattle.kernel_state.proofs.laws.returns_continue.Goals as goal

pub returns : goal.returns
returns c = law
