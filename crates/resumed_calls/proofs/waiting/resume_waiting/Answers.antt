use Rattle.std.proofs.Common.{sym, ◌∙◌}
use Rattle.kernel_state.specs.Setup.{booted_of_setup}
use Rattle.kernel_state.specs.Tables.{tables_of}
use Rattle.resumed_calls.proofs.Line.{session_gone}
use Rattle.resumed_calls.proofs.waiting.resume_waiting.Goals as goal

pub returns-in-None-clause-call : goal.returns-in-None-clause-call
returns-in-None-clause-call c =
    session_gone (tables_of c.end_with.new.tables) (tables_of c.args.tables.now) c.args.cont.now c.end_with.new.cont c.args.turn.slot
    c.args.turn.without_buffer (booted_of_setup c.args.setup.now) (sym c.find.ensures ∙ sym c.copied.ensures ∙ c.in-None.is) c.end_with.ensures.call
