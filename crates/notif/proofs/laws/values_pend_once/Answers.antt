use Rattle.notif.proofs.Once.{values_pend_once}
use Rattle.notif.proofs.laws.values_pend_once.Goals as goal

pub returns : goal.returns
returns c = values_pend_once
