use Rattle.rpc_msgs.proofs.Messages.{request_writes-within}
use Rattle.rpc_msgs.proofs.laws.requests_stay_in_their_places.Goals as goal

pub returns : goal.returns
returns c = request_writes-within
