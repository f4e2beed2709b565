use Rattle.std.proofs.Common.{◌≡◌, Some, sym, subst, List, ℕ}
use Rattle.begin_call.proofs.Apps.{found_uuid}
use Rattle.kernel_model.specs.Codes.{bad_parameters}
use Rattle.kernel_model.specs.Instances.{app_of}
use Rattle.kernel_model.specs.NewCall.{settles_open}
use Rattle.kernel_state.specs.Setup.{application_of}
use Rattle.param_copy.specs.Outcome.{copies_in}
use Rattle.new_calls.proofs.Commands.{open_allowed, open_passes, open_refused, open_uncopied, open_unfound}
use Rattle.new_calls.specs.Argument.{opening_of}
use Rattle.new_calls.specs.Deciding.{call_of}
use Rattle.new_calls.proofs.call.CallAtEntry.open_wanted.Goals as goal

pub returns-in_default-clause-decides : goal.returns-in_default-clause-decides
returns-in_default-clause-decides c before said =
    open_unfound (call_of c.args.self.now) c.args.lane.now before c.args.reads.now (opening_of c.args.wanted.now) said (rw c.in_default.is at c.in_ok-app.ensures)

pub returns-in-Some-open_fault-clause-decides : goal.returns-in-Some-open_fault-clause-decides
returns-in-Some-open_fault-clause-decides c before said =
    open_refused (call_of c.args.self.now) c.args.lane.now before c.args.reads.now (opening_of c.args.wanted.now) (application_of c.in-Some.app) c.in-Some-open_fault.code
    said (rw c.in-Some.is at c.in_ok-app.ensures) (sym c.in-Some-open_fault.ensures)

pub returns-in_default-2-clause-decides : goal.returns-in_default-2-clause-decides
returns-in_default-2-clause-decides c before said =
    let call = call_of c.args.self.now in
    let app = application_of c.in-Some.app in
    let faulty = settles_open call app c.args.wanted.now.login bad_parameters in
    open_uncopied call c.args.lane.now before c.args.reads.now c.copied_params.new.reads (opening_of c.args.wanted.now) app faulty
    said (rw c.in-Some.is at c.in_ok-app.ensures) (sym c.in_default-open_fault.ensures)
    (rw c.in_default-2.is at (c.in_ok-copies.ensures.copied faulty))

pub returns-clause-decides : goal.returns-clause-decides
returns-clause-decides c before said =
    let call = call_of c.args.self.now in
    let app = application_of c.in-Some.app in
    let faulty = settles_open call app c.args.wanted.now.login bad_parameters in
    open_passes call c.args.lane.now before c.args.reads.now c.copied_params.new.reads (opening_of c.args.wanted.now) app (copies_in c.in-Some-2.copies.value)
    said (rw c.in-Some.is at c.in_ok-app.ensures) (sym c.in_default-open_fault.ensures)
    (rw c.in-Some-2.is at (c.in_ok-copies.ensures.copied faulty))

pub returns-clause-can_apply : goal.returns-clause-can_apply
returns-clause-can_apply c =
    let call = call_of c.args.self.now in
    let app = application_of c.in-Some.app in
    let uuid = c.args.wanted.now.uuid in
    let found : app_of call.boot uuid ≡ Some app = rw c.in-Some.is at c.in_ok-app.ensures in
    let allowed = open_allowed call app (sym c.in_default-open_fault.ensures) in
    record {
      known = subst (λ (uuid : List ℕ). app_of call.boot uuid ≡ Some app) (sym (found_uuid call.boot uuid app found)) found;
      alive = allowed.0;
      room = allowed.2;
      pages = allowed.3;
      registered = rw c.in-Some-2.is at c.in_ok-copies.ensures.cookies;
    }
