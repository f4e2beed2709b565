use Rattle.std.proofs.Common.{false}
use Rattle.msg_args.specs.declared.kind.ParamKind.TheVariants.{Empty}
use Rattle.msg_args.specs.declared.param.MsgParam.{MsgParam}
use Rattle.msg_args.specs.Spelling.{head_bytes}
use Rattle.msg_args.proofs.Params.{written_more, length-written_more}
use Rattle.msg_args.proofs.arg.write_arg.Goals as goal

-- what a read of no place would give
abbrev nothing : MsgParam
nothing = record { kind = Empty; meta = false; noncontig = false; cache = 0; p = 0; q = 0; s = 0 }

pub loop-param-preserved : goal.loop-param-preserved
loop-param-preserved c =
    let more = rw c.unwrap-in-loop-param.ensures at c.try_extend_from_slice-in-loop-param.ensures.ok in
    let len = rw c.unwrap-in-loop-param.ensures at c.try_extend_from_slice-in-loop-param.ensures.len in
    (written_more (head_bytes c.args.arg.now.head) c.as_slice-param-items.result.now c.loop-param.param-index nothing _ _ _ c.loop-param-test.true c.loop-param.invariant.0 c.to_bytes-in-loop-param.ensures more, length-written_more c.as_slice-param-items.result.now c.loop-param.param-index nothing c.loop-param.bytes.items _ _ c.loop-param.invariant.1 c.to_bytes-in-loop-param.ensures len)
