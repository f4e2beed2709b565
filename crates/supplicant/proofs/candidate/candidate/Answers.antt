use Rattle.supplicant.proofs.Finding.{argument_found, found_again, is_valued, its_value, missed, named_again}
use Rattle.supplicant.proofs.candidate.candidate.Goals as goal

pub returns-in_err-arg-clause-only : goal.returns-in_err-arg-clause-only
returns-in_err-arg-clause-only c = λ buffer cookie rpc payload room small holds.
    let found = argument_found c.args.message.now c.argument_in.result buffer cookie rpc payload c.argument_in.ensures.only room small holds in
    missed c.argument_in.result _ c.in_err-arg.was found

pub returns-in_err-rpc-clause-only : goal.returns-in_err-rpc-clause-only
returns-in_err-rpc-clause-only c = λ buffer cookie rpc payload room small holds.
    let named = named_again c.args.message.now c.argument_in.result c.in_ok-arg.arg c.rpc_in.result buffer cookie rpc payload c.rpc_in.ensures
    c.argument_in.ensures.only c.in_ok-arg.was room small holds in
    missed c.rpc_in.result rpc c.in_err-rpc.was named

pub returns-clause-value : goal.returns-clause-value
returns-clause-value c =
    is_valued c.with_payload.result c.in_ok-rpc.rpc
    (its_value c.rpc_in.result c.in_ok-arg.arg _ c.in_ok-rpc.rpc c.rpc_in.ensures c.in_ok-arg.ensures.fits c.in_ok-rpc.was)
    c.with_payload.ensures.value

pub returns-clause-only : goal.returns-clause-only
returns-clause-only c = λ buffer cookie rpc payload room small holds.
    let named = named_again c.args.message.now c.argument_in.result c.in_ok-arg.arg c.rpc_in.result buffer cookie rpc payload c.rpc_in.ensures
    c.argument_in.ensures.only c.in_ok-arg.was room small holds in
    found_again c.args.message.now c.rpc_in.result c.in_ok-rpc.rpc c.with_payload.result buffer cookie rpc payload c.in_ok-rpc.was named
    c.with_payload.ensures.only holds
