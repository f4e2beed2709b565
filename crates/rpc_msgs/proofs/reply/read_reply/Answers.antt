use Rattle.std.proofs.Common.{List, [], ap}
use Rattle.std.specs.Option.{option_map}
use Rattle.ns_ram.specs.declared.read.Read.{Read}
use Rattle.rpc_msgs.specs.declared.rpc.RpcReply.{RpcReply}
use Rattle.rpc_msgs.proofs.reply.read_reply.Goals as goal

pub returns-clause-reply : goal.returns-clause-reply
returns-clause-reply c = ap (option_map (λ (end : RpcReply × List Read). end.0)) (c.fill_reply.ensures.reads [])
