use Rattle.std.proofs.Common.{ap, ◌∙◌}
use Rattle.std.specs.Option.{option_map}
use Rattle.std.specs.Result.{result_ok}
use Rattle.std.specs.Simd.{first_chunks}
use Rattle.arrayvec.specs.ArrayVec.{ArrayVec}
use Rattle.msg_args.specs.declared.param.MsgParam.{MsgParam}
use Rattle.new_calls.proofs.Params.{params_read}
use Rattle.new_calls.proofs.argument.params_in.Goals as goal

pub returns : goal.returns
returns c =
    ap (option_map (λ (params : ArrayVec MsgParam). params.items)) (c.ok.ensures.value ∙ ap result_ok c.read_params.ensures)
    ∙ params_read (first_chunks 32 c.args.count c.args.bytes.now)
