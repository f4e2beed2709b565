use Rattle.realm_model.proofs.FixedAnswers.{fixed_keep_tied as law}
use Rattle.realm_model.proofs.ties.fixed_answers_keep_realms.Goals as goal

pub returns : goal.returns
returns c = law
