use Rattle.play_model.proofs.LinesStay.{fixed_answers_pass as law}
use Rattle.play_model.proofs.laws.fixed_answers_pass.Goals as goal

pub returns : goal.returns
returns c = law
