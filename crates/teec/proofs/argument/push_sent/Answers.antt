use Rattle.std.proofs.Common.{arith}
use Rattle.std.proofs.lemmas.Grind.{common_steps}
use Rattle.teec.proofs.SentParams.{sent_so}
use Rattle.teec.proofs.argument.push_sent.Goals as goal

pub returns : goal.returns
returns c =
    let sent = sent_so c.param_sent.result c.param_sent-2.result c.param_sent-3.result c.param_sent-4.result c.args.op.now c.args.sent
    c.param_sent.ensures c.param_sent-2.ensures c.param_sent-3.ensures c.param_sent-4.ensures in
    grind (arith, common_steps)
