use Rattle.live_text.proofs.Sounding.{lines_stay_sound as law}
use Rattle.live_text.proofs.laws.lines_stay_sound.Goals as goal

pub returns : goal.returns
returns c = law
