use Rattle.own_model.proofs.InOrder.{stays_in_order as law}
use Rattle.own_model.proofs.laws.machines_stay_in_order.Goals as goal

pub returns : goal.returns
returns c = law
