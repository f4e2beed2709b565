use Rattle.play_model.proofs.LinesStay.{plays_go_on as law}
use Rattle.play_model.proofs.laws.plays_go_on.Goals as goal

pub returns : goal.returns
returns c = law
