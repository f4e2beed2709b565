use Rattle.std.proofs.Common.{refl, sym, subst}
use Rattle.base.specs.NumberMap.{get}
use Rattle.begin_call.specs.Begins.{brought}
use Rattle.begin_call.specs.Points.{points_of}
use Rattle.kernel_state.specs.Setup.{application_of, booted_of_setup}
use Rattle.kernel_state.specs.Tables.{tables_of}
use Rattle.resumed_calls.proofs.Begins.{close_not_open, close_unsettled, closing, instance_gone, invoke_not_open}
use Rattle.resumed_calls.proofs.Begins.{invoke_unsettled, invoking, no_app, opening, settled}
use Rattle.resumed_calls.specs.Waiting.{MayBeItsApp}
use Rattle.resumed_calls.proofs.waiting.begin_in.Goals as goal

pub returns-in_default-clause-call : goal.returns-in_default-clause-call
returns-in_default-clause-call c =
    let boot = booted_of_setup c.args.setup.now in
    no_app (tables_of c.end_with.new.tables) (tables_of c.args.tables.now) c.args.cont.now c.end_with.new.cont c.args.turn.slot c.args.turn.session
    boot (subst (MayBeItsApp boot c.args.cont.now) c.in_default.is c.requires.app) c.requires.line c.end_with.ensures.call

pub returns-in-Open-default-clause-call : goal.returns-in-Open-default-clause-call
returns-in-Open-default-clause-call c =
    let boot = booted_of_setup c.args.setup.now in
    let turn = c.args.turn in
    opening (tables_of c.begin_open.new.tables) (tables_of c.args.tables.now) c.args.cont.now c.begin_open.new.cont turn.slot turn.session
    (get (tables_of c.args.tables.now).instances c.args.cont.now.instance) (application_of c.in-Some.app)
    (brought (record { slot = turn.slot; app = c.in-Some.app; login = turn.session.login }) c.args.cont.now) boot c.in-Open-default.is-0
    (subst (MayBeItsApp boot c.args.cont.now) c.in-Some.is c.requires.app) c.requires.line.app refl c.begin_open.ensures.call

pub begin-requires-clause-unsettled : goal.begin-requires-clause-unsettled
begin-requires-clause-unsettled c = invoke_unsettled c.args.cont.now.kind _ c.in-Invoke-true.is-0

pub begin-requires-in-Close-true-clause-unsettled : goal.begin-requires-in-Close-true-clause-unsettled
begin-requires-in-Close-true-clause-unsettled c = close_unsettled c.args.cont.now.kind c.in-Close-true.is-0

pub returns-in-Invoke-true-clause-call : goal.returns-in-Invoke-true-clause-call
returns-in-Invoke-true-clause-call c =
    let turn = c.args.turn in
    invoking (tables_of c.begin.new.tables) (tables_of c.args.tables.now) c.args.cont.now c.begin.new.cont turn.slot c.in-Invoke-true.func turn.session
    (points_of c.only-points.result) (booted_of_setup c.args.setup.now) c.in-Invoke-true.is-0 (sym c.in-Invoke-true.ensures) c.only-points.ensures c.begin.ensures.call

pub returns-in-Close-true-clause-call : goal.returns-in-Close-true-clause-call
returns-in-Close-true-clause-call c =
    let boot = booted_of_setup c.args.setup.now in
    let turn = c.args.turn in
    closing (tables_of c.begin-in-Close-true.new.tables) (tables_of c.args.tables.now) c.args.cont.now c.begin-in-Close-true.new.cont turn.slot turn.session
    (points_of c.closing_points-points.result) (application_of c.in-Some.app) boot c.in-Close-true.is-0 (sym c.in-Close-true.ensures) c.requires.line
    (subst (MayBeItsApp boot c.args.cont.now) c.in-Some.is c.requires.app) c.closing_points-points.ensures c.begin-in-Close-true.ensures.call

pub returns-in-Invoke-false-clause-call : goal.returns-in-Invoke-false-clause-call
returns-in-Invoke-false-clause-call c =
    instance_gone (tables_of c.end_with-in-Invoke-false.new.tables) (tables_of c.args.tables.now) c.args.cont.now c.end_with-in-Invoke-false.new.cont
    c.args.turn.slot c.args.turn.session (get (tables_of c.args.tables.now).instances c.args.cont.now.instance) (booted_of_setup c.args.setup.now)
    (invoke_not_open c.args.cont.now.kind _ c.in-Invoke-false.is-0) (sym c.in-Invoke-false.ensures) c.end_with-in-Invoke-false.ensures.call

pub returns-in-Close-false-clause-call : goal.returns-in-Close-false-clause-call
returns-in-Close-false-clause-call c =
    instance_gone (tables_of c.end_with-in-Close-false.new.tables) (tables_of c.args.tables.now) c.args.cont.now c.end_with-in-Close-false.new.cont
    c.args.turn.slot c.args.turn.session (get (tables_of c.args.tables.now).instances c.args.cont.now.instance) (booted_of_setup c.args.setup.now)
    (close_not_open c.args.cont.now.kind c.in-Close-false.is-0) (sym c.in-Close-false.ensures) c.end_with-in-Close-false.ensures.call

pub returns-in-Settled-default-clause-call : goal.returns-in-Settled-default-clause-call
returns-in-Settled-default-clause-call c =
    settled (tables_of c.end_with-in-Settled-default.new.tables) (tables_of c.args.tables.now) c.args.cont.now c.end_with-in-Settled-default.new.cont
    c.args.turn.slot c.args.turn.session (get (tables_of c.args.tables.now).instances c.args.cont.now.instance) (booted_of_setup c.args.setup.now)
    c.in-Settled-default.is-0 c.end_with-in-Settled-default.ensures.call
