use Rattle.play_model.proofs.Items.{traces_are_played as law}
use Rattle.play_model.proofs.laws.traces_are_played.Goals as goal

pub returns : goal.returns
returns c = law
