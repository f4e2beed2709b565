use Rattle.journal_runner.proofs.HaveAnswers.{recorded_is_audited_legal as law}
use Rattle.journal_runner.proofs.laws.recorded_is_audited_legal.Goals as goal

pub returns : goal.returns
returns c = law
