use Rattle.notif.proofs.Reaching.{signals_reach_drivers}
use Rattle.notif.proofs.laws.signals_reach_drivers.Goals as goal

pub returns : goal.returns
returns c = signals_reach_drivers
