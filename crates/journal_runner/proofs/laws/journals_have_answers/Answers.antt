use Rattle.journal_runner.proofs.HaveAnswers.{journals_have_answers as law}
use Rattle.journal_runner.proofs.laws.journals_have_answers.Goals as goal

pub returns : goal.returns
returns c = law
