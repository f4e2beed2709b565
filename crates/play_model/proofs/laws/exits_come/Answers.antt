use Rattle.play_model.proofs.EventsCome.{exits_come as law}
use Rattle.play_model.proofs.laws.exits_come.Goals as goal

pub returns : goal.returns
returns c = law
