use Rattle.notif.proofs.Reaching.{desks_keep_their_drivers}
use Rattle.notif.proofs.laws.desks_keep_their_drivers.Goals as goal

pub returns : goal.returns
returns c = desks_keep_their_drivers
