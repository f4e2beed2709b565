use Rattle.play_model.proofs.PlaysThere.{traces_have_plays as law}
use Rattle.play_model.proofs.laws.traces_have_plays.Goals as goal

pub returns : goal.returns
returns c = law
