use Rattle.play_model.proofs.Coming.{items_can_come as law}
use Rattle.play_model.proofs.laws.items_can_come.Goals as goal

pub returns : goal.returns
returns c = law
