use Rattle.std.proofs.Common.{None, refl, ap}
use Rattle.kernel_model.specs.Kernel.{ACancel, Untold}
use Rattle.kernel_model.specs.NewCall.{closes, invokes}
use Rattle.kernel_state.specs.Setup.{application_of}
use Rattle.kernel_state.specs.Tables.{tables_of}
use Rattle.new_calls.specs.Applying.{CanInvoke, IsInSession}
use Rattle.new_calls.specs.Deciding.{call_found}
use Rattle.param_copy.specs.Outcome.{copies_in}
use Rattle.shm_registry.specs.Registered.{Registered}
use Rattle.kernel_entry.proofs.Applied.{found_there, in_session_taken, settled_taken}
use Rattle.kernel_entry.proofs.plans.apply_plan.Goals as goal

pub returns-in-Settles-clause-taken : goal.returns-in-Settles-clause-taken
returns-in-Settles-clause-taken c boot keyed applies =
    rw c.in-Settles.is (settled_taken boot c.args.tables.now c.args.entered.now c.in-Settles.settled c.settle.new.cont
    (c.settle.ensures boot (tables_of c.args.tables.now)))

pub returns-in-Invokes-clause-taken : goal.returns-in-Invokes-clause-taken
returns-in-Invokes-clause-taken c boot keyed applies =
    let model = call_found boot (tables_of c.args.tables.now) c.args.entered.now in
    let can : CanInvoke model c.in-Invokes.session (application_of c.in-Invokes.app) c.in-Invokes.copies.value.cookies.items = rw c.in-Invokes.is at applies in
    rw c.in-Invokes.is (in_session_taken model c.in-Invokes.session (application_of c.in-Invokes.app) c.args.entered.now c.apply_invoke.new.tables c.apply_invoke.new.cont
    (λ named. invokes model named (copies_in c.in-Invokes.copies.value)) can.there
    (c.apply_invoke.ensures.taken boot can.there.instance keyed (found_there model c.in-Invokes.session (application_of c.in-Invokes.app) can.there) can.there.known))

pub returns-in-Invokes-clause-pages : goal.returns-in-Invokes-clause-pages
returns-in-Invokes-clause-pages c setup applies has = c.apply_invoke.ensures.pages setup has

pub returns-in-Closes-clause-taken : goal.returns-in-Closes-clause-taken
returns-in-Closes-clause-taken c boot keyed applies =
    let model = call_found boot (tables_of c.args.tables.now) c.args.entered.now in
    let there : IsInSession model c.in-Closes.session (application_of c.in-Closes.app) = rw c.in-Closes.is at applies in
    rw c.in-Closes.is (in_session_taken model c.in-Closes.session (application_of c.in-Closes.app) c.args.entered.now c.apply_close.new.tables c.apply_close.new.cont
    (λ named. closes model named) there
    (c.apply_close.ensures.taken boot there.instance keyed (found_there model c.in-Closes.session (application_of c.in-Closes.app) there) there.known))

pub returns-in-Closes-clause-pages : goal.returns-in-Closes-clause-pages
returns-in-Closes-clause-pages c setup applies has = c.apply_close.ensures.pages setup has

pub returns-in-Cancels-clause-taken : goal.returns-in-Cancels-clause-taken
returns-in-Cancels-clause-taken c boot keyed applies =
    rw c.in-Cancels.is (record {
      tables = refl;
      call = c.settled_call.ensures boot (tables_of c.args.tables.now) ACancel None tt;
      cancel_id = refl;
      marked = refl;
      cancels = refl;
    })

pub returns-in-KeepsBuffer-clause-taken : goal.returns-in-KeepsBuffer-clause-taken
returns-in-KeepsBuffer-clause-taken c boot keyed applies =
    rw c.in-KeepsBuffer.is (record {
      tables = ap (λ (registry : Registered). tables_of (record c.args.tables.now { registry = registry })) c.keep_buffer.ensures;
      call = c.settled_call-in-KeepsBuffer.ensures boot (tables_of c.args.tables.now) Untold None tt;
      cancel_id = refl;
      marked = refl;
      cancels = refl;
    })

pub returns-in-DropsBuffer-clause-taken : goal.returns-in-DropsBuffer-clause-taken
returns-in-DropsBuffer-clause-taken c boot keyed applies =
    rw c.in-DropsBuffer.is (record {
      tables = ap (λ (registry : Registered). tables_of (record c.args.tables.now { registry = registry })) c.drop_buffer.ensures;
      call = c.settled_call-in-DropsBuffer.ensures boot (tables_of c.args.tables.now) Untold None tt;
      cancel_id = refl;
      marked = refl;
      cancels = refl;
    })
