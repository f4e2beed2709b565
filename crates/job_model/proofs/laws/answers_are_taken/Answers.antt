use Rattle.job_model.proofs.TakenAnswers.{answers_are_taken as law}
use Rattle.job_model.proofs.laws.answers_are_taken.Goals as goal

pub returns : goal.returns
returns c = law
