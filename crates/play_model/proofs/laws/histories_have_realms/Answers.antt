use Rattle.play_model.proofs.Realms.{histories_have_realms as law}
use Rattle.play_model.proofs.laws.histories_have_realms.Goals as goal

pub returns : goal.returns
returns c = law
