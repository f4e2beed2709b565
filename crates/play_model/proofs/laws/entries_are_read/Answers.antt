use Rattle.play_model.proofs.EventsCome.{entries_are_read as law}
use Rattle.play_model.proofs.laws.entries_are_read.Goals as goal

pub returns : goal.returns
returns c = law
