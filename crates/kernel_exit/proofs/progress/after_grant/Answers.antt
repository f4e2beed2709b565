use Rattle.kernel_state.specs.Tables.{tables_of}
use Rattle.kernel_exit.proofs.ComesTo.{ended_by, panicked_by}
use Rattle.kernel_exit.proofs.progress.after_grant.Goals as goal

pub returns-in-Ended-clause-comes : goal.returns-in-Ended-clause-comes
returns-in-Ended-clause-comes c =
    ended_by (tables_of c.args.tables.now) c.args.cont.now c.tables_after_end.new.cont c.shows_result.new.cont c.tables_after_end.new.tables c.args.why c.in-Ended.field-0
    c.in-Ended.is c.tables_after_end.ensures.tables c.tables_after_end.ensures.stays c.shows_result.ensures.stays c.shows_result.ensures.wakes

pub returns-in-Panicked-clause-comes : goal.returns-in-Panicked-clause-comes
returns-in-Panicked-clause-comes c =
    panicked_by (tables_of c.args.tables.now) c.args.cont.now c.tables_after_panic.new.cont c.shows_result-in-Panicked.new.cont c.tables_after_panic.new.tables c.args.why c.in-Panicked.field-0
    c.in-Panicked.is c.tables_after_panic.ensures.tables c.tables_after_panic.ensures.stays
    c.shows_result-in-Panicked.ensures.stays c.shows_result-in-Panicked.ensures.wakes
