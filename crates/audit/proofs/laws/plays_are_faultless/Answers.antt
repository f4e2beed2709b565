use Rattle.audit.proofs.SteadyPlays.{plays_are_faultless as law}
use Rattle.audit.proofs.laws.plays_are_faultless.Goals as goal

pub returns : goal.returns
returns c = law
