use Rattle.msg_args.proofs.Attributes.{words_at}
use Rattle.msg_args.proofs.param.MsgParam.read.Goals as goal

pub returns : goal.returns
returns c = words_at c.args.bytes.now _ _ _ _ _ c.from_words.ensures c.read_u64.ensures c.read_u64-2.ensures c.read_u64-3.ensures c.read_u64-4.ensures
