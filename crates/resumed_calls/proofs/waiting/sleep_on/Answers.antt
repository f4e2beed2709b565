use Rattle.kernel_state.specs.Tables.{tables_of}
use Rattle.resumed_calls.proofs.Line.{without_buffer}
use Rattle.resumed_calls.proofs.waiting.sleep_on.Goals as goal

pub returns-then-without_buffer-clause-call : goal.returns-then-without_buffer-clause-call
returns-then-without_buffer-clause-call c =
    without_buffer (tables_of c.end_with.new.tables) (tables_of c.args.tables.now) c.args.cont.now c.end_with.new.cont c.args.slot
    c.args.without_buffer c.if-without_buffer.true c.end_with.ensures.call
