use Rattle.made_play.proofs.Ends.{law}
use Rattle.made_play.proofs.laws.made_plays_end.Goals as goal

pub returns : goal.returns
returns c = law
