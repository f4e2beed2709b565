use Rattle.ordered_play.proofs.NamedOrder.{blocks_name_the_order as law}
use Rattle.ordered_play.proofs.laws.blocks_name_the_order.Goals as goal

pub returns : goal.returns
returns c = law
