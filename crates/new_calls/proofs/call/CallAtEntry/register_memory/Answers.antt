use Rattle.std.proofs.Common.{sym}
use Rattle.new_calls.proofs.call.CallAtEntry.register_memory.Goals as goal

pub returns-clause-decides : goal.returns-clause-decides
returns-clause-decides c =
    c.register_buffer.ensures.decides c.args.reads.now (c.in_ok-params.params.items, c.in_ok-params.ensures, rw c.as_slice.ensures.value at (sym c.in-Some.ensures))
