use Rattle.std.proofs.Common.{sym, ◌∙◌}
use Rattle.base.specs.NumberMap.{get}
use Rattle.begin_call.specs.Begins.{brought}
use Rattle.kernel_state.specs.Setup.{application_of, booted_of_setup}
use Rattle.kernel_state.specs.Tables.{tables_of}
use Rattle.kernel_state.specs.declared.tables.Tables.{Tables}
use Rattle.resumed_calls.proofs.Begins.{app_again, no_pages, opened_kept, opened_new, pages_begun}
use Rattle.resumed_calls.proofs.Line.{left_line}
use Rattle.resumed_calls.proofs.waiting.begin_open.Goals as goal

pub returns-then-is_kept-clause-call : goal.returns-then-is_kept-clause-call
returns-then-is_kept-clause-call c =
    let old = c.args.tables.now in
    let mid : Tables = record old { waiters = c.leave.new.self } in
    opened_kept old mid c.open_kept.new.tables c.args.cont.now c.open_kept.new.cont c.args.opener.slot (brought c.args.opener c.args.cont.now)
    (booted_of_setup c.args.setup.now) c.requires.opens (left_line old c.leave.new.self c.args.opener.slot c.leave.ensures) c.requires.line
    c.requires.app
    (sym c.is_kept.ensures ∙ c.if-is_kept.true) c.open_kept.ensures.begins

pub returns-then-is_kept-clause-pages : goal.returns-then-is_kept-clause-pages
returns-then-is_kept-clause-pages c =
    let old = c.args.tables.now in
    let mid : Tables = record old { waiters = c.leave.new.self } in
    pages_begun c.args.setup.now old mid c.open_kept.new.tables c.args.opener.slot (left_line old c.leave.new.self c.args.opener.slot c.leave.ensures)
    (c.open_kept.ensures.pages c.args.setup.now) c.requires.pages

pub returns-then-has_pages_for-clause-call : goal.returns-then-has_pages_for-clause-call
returns-then-has_pages_for-clause-call c =
    let old = c.args.tables.now in
    let mid : Tables = record old { waiters = c.leave-then-has_pages_for.new.self } in
    opened_new old mid c.open_new.new.tables c.args.cont.now c.open_new.new.cont c.args.opener.slot (brought c.args.opener c.args.cont.now)
    (booted_of_setup c.args.setup.now) c.requires.opens
    (left_line old c.leave-then-has_pages_for.new.self c.args.opener.slot c.leave-then-has_pages_for.ensures) c.requires.line c.requires.app
    (sym c.is_kept.ensures ∙ c.if-is_kept.false) (sym c.has_pages_for.ensures.pages ∙ c.if-has_pages_for.true) c.open_new.ensures.begins

pub returns-then-has_pages_for-clause-pages : goal.returns-then-has_pages_for-clause-pages
returns-then-has_pages_for-clause-pages c =
    let old = c.args.tables.now in
    let mid : Tables = record old { waiters = c.leave-then-has_pages_for.new.self } in
    pages_begun c.args.setup.now old mid c.open_new.new.tables c.args.opener.slot
    (left_line old c.leave-then-has_pages_for.new.self c.args.opener.slot c.leave-then-has_pages_for.ensures)
    (c.open_new.ensures.pages c.args.setup.now (app_again (booted_of_setup c.args.setup.now) c.args.cont.now (application_of c.args.opener.app) c.requires.app)) c.requires.pages

pub returns-else-has_pages_for-clause-call : goal.returns-else-has_pages_for-clause-call
returns-else-has_pages_for-clause-call c =
    no_pages (tables_of c.end_with.new.tables) (tables_of c.args.tables.now) c.args.cont.now c.end_with.new.cont c.args.opener.slot
    (brought c.args.opener c.args.cont.now) (get (tables_of c.args.tables.now).instances c.args.cont.now.instance) (booted_of_setup c.args.setup.now)
    (sym c.is_kept.ensures ∙ c.if-is_kept.false) (sym c.has_pages_for.ensures.pages ∙ c.if-has_pages_for.false) c.end_with.ensures.call
