use Rattle.msg_args.proofs.Faults.{all_is_read}
use Rattle.msg_args.proofs.arg.read.Goals as goal

pub returns : goal.returns
returns c =
    let cut = c.in-Some.ensures.cases in
    all_is_read c.args.bytes.now _ _ _ _ _ cut.0 cut.1 cut.2 c.read_head-head.ensures.fields c.if-head-gt-MAX_PARAMS.false c.if-rest-head.false c.read_params.ensures c.in_ok-params.was
