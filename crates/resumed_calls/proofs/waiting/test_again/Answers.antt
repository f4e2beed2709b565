use Rattle.std.proofs.Common.{sym, ◌∙◌}
use Rattle.base.specs.NumberMap.{get}
use Rattle.kernel_state.specs.Setup.{booted_of_setup}
use Rattle.kernel_state.specs.Tables.{tables_of}
use Rattle.resumed_calls.proofs.Line.{on_dead, on_held}
use Rattle.resumed_calls.proofs.waiting.test_again.Goals as goal

pub returns-then-is_lost-clause-call : goal.returns-then-is_lost-clause-call
returns-then-is_lost-clause-call c =
    on_dead (tables_of c.end_with.new.tables) (tables_of c.args.tables.now) c.args.cont.now c.end_with.new.cont c.args.turn.slot c.args.turn.without_buffer
    c.args.session (get (tables_of c.args.tables.now).instances c.args.cont.now.instance) (booted_of_setup c.args.setup.now)
    (sym c.is_lost.ensures ∙ c.if-is_lost.true) c.end_with.ensures.call

pub returns-then-is_held-clause-call : goal.returns-then-is_held-clause-call
returns-then-is_held-clause-call c =
    on_held (tables_of c.sleep_on.new.tables) (tables_of c.args.tables.now) c.args.cont.now c.sleep_on.new.cont c.args.turn.slot c.args.turn.without_buffer
    c.args.session (get (tables_of c.args.tables.now).instances c.args.cont.now.instance) (booted_of_setup c.args.setup.now)
    (sym c.is_lost.ensures ∙ c.if-is_lost.false) (sym c.is_held.ensures ∙ c.if-is_held.true) c.sleep_on.ensures.call
