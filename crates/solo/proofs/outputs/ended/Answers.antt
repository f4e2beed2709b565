use Rattle.std.proofs.Common.{ap}
use Rattle.own_model.specs.declared.own_reply.OwnReply.TheVariants as reply
use Rattle.ta_params.specs.declared.copied_params.CopiedParams.{CopiedParams}
use Rattle.solo.proofs.outputs.ended.Goals as goal

pub returns : goal.returns
returns c longest holds short =
    ap (λ (outputs : CopiedParams). reply.Ended c.args.outcome.result c.args.outcome.origin outputs)
    (c.outputs_with.ensures longest holds short)
