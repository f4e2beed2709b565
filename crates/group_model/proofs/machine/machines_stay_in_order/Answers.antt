use Rattle.group_model.proofs.InOrder.{stays_in_order as law}
use Rattle.group_model.proofs.machine.machines_stay_in_order.Goals as goal

pub returns : goal.returns
returns c = law
