use Rattle.live_play.proofs.Copying.{copies_are_ram as law}
use Rattle.live_play.proofs.laws.copies_are_ram.Goals as goal

pub returns : goal.returns
returns c = law
