use Rattle.made_play.proofs.Sound.{law}
use Rattle.made_play.proofs.laws.made_traces_are_sound.Goals as goal

pub returns : goal.returns
returns c = law
