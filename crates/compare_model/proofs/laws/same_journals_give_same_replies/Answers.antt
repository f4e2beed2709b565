use Rattle.compare_model.proofs.Replies.{same_gives_same_replies as law}
use Rattle.compare_model.proofs.laws.same_journals_give_same_replies.Goals as goal

pub returns : goal.returns
returns c = law
