use Rattle.kernel_state.proofs.Answering.{fixed_pass as law}
use Rattle.kernel_state.proofs.laws.fixed_answers_pass.Goals as goal

pub returns : goal.returns
returns c = law
