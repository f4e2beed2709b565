use Rattle.client_play.proofs.ScriptsPlayed.{scripts_have_plays as law}
use Rattle.client_play.proofs.laws.scripts_have_plays.Goals as goal

pub returns : goal.returns
returns c = law
