use Rattle.rpc_msgs.proofs.Reached.{replies-readings}
use Rattle.rpc_msgs.proofs.laws.replies_are_read.Goals as goal

pub returns : goal.returns
returns c = replies-readings
