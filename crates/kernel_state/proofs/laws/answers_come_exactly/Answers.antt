use Rattle.kernel_state.proofs.Answering.{answers_exactly as law}
use Rattle.kernel_state.proofs.laws.answers_come_exactly.Goals as goal

pub returns : goal.returns
returns c = law
