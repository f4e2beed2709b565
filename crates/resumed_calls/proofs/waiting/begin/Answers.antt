use Rattle.begin_call.specs.Points.{points_of}
use Rattle.kernel_state.specs.Setup.{application_of, booted_of_setup}
use Rattle.kernel_state.specs.declared.tables.Tables.{Tables}
use Rattle.resumed_calls.proofs.Begins.{begun_on, pages_begun, ready_in}
use Rattle.resumed_calls.proofs.Line.{left_line}
use Rattle.resumed_calls.proofs.waiting.begin.Goals as goal

pub begin_on-requires-clause-kept : goal.begin_on-requires-clause-kept
begin_on-requires-clause-kept c =
    let old = c.args.tables.now in
    let mid : Tables = record old { waiters = c.leave.new.self } in
    ready_in old mid c.args.cont.now c.args.call.slot c.args.call.session (application_of c.args.call.app) (booted_of_setup c.args.setup.now)
    (left_line old c.leave.new.self c.args.call.slot c.leave.ensures) c.requires.line c.requires.app c.requires.session c.requires.kept c.requires.ready

pub returns-clause-call : goal.returns-clause-call
returns-clause-call c =
    let old = c.args.tables.now in
    let mid : Tables = record old { waiters = c.leave.new.self } in
    begun_on old mid c.begin_on.new.tables c.args.cont.now c.begin_on.new.cont c.args.call.slot c.args.call.session (points_of c.args.call.points)
    (application_of c.args.call.app) (booted_of_setup c.args.setup.now) c.requires.unsettled
    (left_line old c.leave.new.self c.args.call.slot c.leave.ensures) c.requires.line c.requires.app c.requires.session c.begin_on.ensures.begins

pub returns-clause-pages : goal.returns-clause-pages
returns-clause-pages c =
    let old = c.args.tables.now in
    let mid : Tables = record old { waiters = c.leave.new.self } in
    pages_begun c.args.setup.now old mid c.begin_on.new.tables c.args.call.slot (left_line old c.leave.new.self c.args.call.slot c.leave.ensures)
    (c.begin_on.ensures.pages c.args.setup.now) c.requires.pages
