use Rattle.std.proofs.Common.{ap, ◌∙◌}
use Rattle.kernel_model.specs.Codes.{bad_parameters}
use Rattle.kernel_model.specs.NewCall.{invokes, settles_invoke}
use Rattle.kernel_state.specs.Tables.{instance_of}
use Rattle.param_copy.specs.Outcome.{copies_in}
use Rattle.new_calls.specs.Deciding.{call_of}
use Rattle.new_calls.proofs.Commands.{invoke_dead, invoke_passes, invoke_uncopied, invoke_unnamed, passing}
use Rattle.new_calls.proofs.Naming.{begins_there, named_kept}
use Rattle.new_calls.proofs.call.CallAtEntry.invoke_with.Goals as goal

pub returns-in_default-clause-decides : goal.returns-in_default-clause-decides
returns-in_default-clause-decides c before said =
    invoke_unnamed (call_of c.args.self.now) c.args.lane.now before c.args.reads.now c.args.invoked.now said c.in_default.ensures

pub returns-then-instance-clause-decides : goal.returns-then-instance-clause-decides
returns-then-instance-clause-decides c before said =
    invoke_dead (call_of c.args.self.now) c.args.lane.now before c.args.reads.now c.args.invoked.now c.in-Some.session (instance_of c.in-Some.instance.now)
    said c.in-Some.ensures c.if-instance.true

pub returns-in_default-2-clause-decides : goal.returns-in_default-2-clause-decides
returns-in_default-2-clause-decides c before said =
    let call = call_of c.args.self.now in
    let faulty = settles_invoke call bad_parameters in
    invoke_uncopied call c.args.lane.now before c.args.reads.now c.copied_params.new.reads c.args.invoked.now c.in-Some.session (instance_of c.in-Some.instance.now) faulty
    said c.in-Some.ensures c.if-instance.false
    (rw c.in_default-2.is at (c.in_ok-copies.ensures.copied faulty))

pub returns-clause-decides : goal.returns-clause-decides
returns-clause-decides c before said =
    let call = call_of c.args.self.now in
    let session = c.in-Some.session in
    let copies = copies_in c.in-Some-2.copies.value in
    invoke_passes call c.args.lane.now before c.args.reads.now c.copied_params.new.reads c.args.invoked.now session (instance_of c.in-Some.instance.now) copies
    said c.in-Some.ensures c.if-instance.false
    (rw c.in-Some-2.is at (c.in_ok-copies.ensures.copied (settles_invoke call bad_parameters)))
    ∙ ap (passing c.copied_params.new.reads) (begins_there call session (instance_of c.in-Some.instance.now) (λ named. invokes call named copies) c.in-Some.ensures)

pub app_on-requires : goal.app_on-requires
app_on-requires c =
    let session = c.in-Some.session in
    let instance = instance_of c.in-Some.instance.now in
    c.requires.apps session.instance instance (named_kept (call_of c.args.self.now) session instance c.in-Some.ensures)

pub returns-clause-can_apply : goal.returns-clause-can_apply
returns-clause-can_apply c = record {
  there = record {
    instance = instance_of c.in-Some.instance.now;
    named = c.in-Some.ensures;
    known = c.in_ok-app.ensures;
  };
  alive = c.if-instance.false;
  registered = rw c.in-Some-2.is at c.in_ok-copies.ensures.cookies;
}
