use Rattle.kernel_model.proofs.Answered.{answers_exactly as law}
use Rattle.kernel_model.proofs.laws.answers_come_exactly.Goals as goal

pub returns : goal.returns
returns c = law
