use Rattle.kernel_model.proofs.FixedAnswer.{fixed_answers}
use Rattle.kernel_model.proofs.laws.fixed_answers_change_one_processor.Goals as goal

pub returns : goal.returns
returns c = fixed_answers
