use Rattle.supplicant.proofs.Helds.{held}
use Rattle.supplicant.proofs.laws.requests_are_held.Goals as goal

pub returns : goal.returns
returns c = held
