use Rattle.new_calls.proofs.call.CallAtEntry.invoke_command.Goals as goal

pub returns-clause-decides : goal.returns-clause-decides
returns-clause-decides c =
    c.invoke_with.ensures.decides c.args.reads.now (c.in_ok-params.params.items, c.in_ok-params.ensures, rw c.as_slice.ensures.value at c.in-Some.ensures.0)
