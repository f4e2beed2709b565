use Rattle.own_model.proofs.Shown.{exits_show as law}
use Rattle.own_model.proofs.laws.exits_show_replies.Goals as goal

pub returns : goal.returns
returns c = law
