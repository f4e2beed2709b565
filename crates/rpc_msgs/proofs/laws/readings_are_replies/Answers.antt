use Rattle.rpc_msgs.proofs.Replies.{readings-replies}
use Rattle.rpc_msgs.proofs.laws.readings_are_replies.Goals as goal

pub returns : goal.returns
returns c = readings-replies
