use Rattle.compare_model.proofs.Replies.{journals_are_answered_alone as law}
use Rattle.compare_model.proofs.laws.journals_are_answered_alone.Goals as goal

pub returns : goal.returns
returns c = law
