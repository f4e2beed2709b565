use Rattle.std.proofs.Common.{Ok, sym, subst}
use Rattle.std.specs.Prelude.{All}
use Rattle.msg_args.specs.Attribute.{IsAllowed}
use Rattle.msg_args.specs.declared.arg.MsgArg.{MsgArg}
use Rattle.teec.specs.Calls.{call_of, invoke_call}
use Rattle.teec.specs.Client.{limits_of}
use Rattle.teec.specs.Rounds.{Calls, Ended}
use Rattle.teec.specs.Runs.{Stopped, Went, moment, scene_of}
use Rattle.teec.proofs.Bounds.{makes_few}
use Rattle.teec.proofs.Faults.{has_its_cause}
use Rattle.teec.proofs.Sending.{invoke_allowed, retried_kept, run_stopped}
use Rattle.teec.proofs.client.Client.invoke_sending.Goals as goal

pub run-requires-clause-params : goal.run-requires-clause-params
run-requires-clause-params g c =
    subst (λ (arg : MsgArg). All IsAllowed arg.params.items) (sym c.invoke_argument-arg.ensures) (invoke_allowed c.args.session c.args.func c.args.op.now c.args.sent)

pub returns-in_err-run-clause-run : goal.returns-in_err-run-clause-run
returns-in_err-run-clause-run g c = λ alive.
    run_stopped (limits_of c.args.self.now c.args.op.now.cancel_after) (invoke_call c.args.session c.args.func c.args.op.now c.args.sent) (scene_of (g.W.SmcPort.ram c.args.self.now.world) c.args.self.now.storage) (g.W.SmcPort.made c.args.self.now.world) c.from_residual-in_err-run.result c.in_err-run.field-0.0 (scene_of (g.W.SmcPort.ram c.run.new.self.world) c.run.new.self.storage) (g.W.SmcPort.made c.run.new.self.world) (g.W.SmcPort.has_room c.run.new.self.world)
    c.from_residual-in_err-run.ensures.1
    (subst (λ (arg : MsgArg). Stopped (limits_of c.args.self.now c.args.op.now.cancel_after) (call_of arg c.args.op.now c.args.session) (moment (g.W.SmcPort.ram c.args.self.now.world) (g.W.SmcPort.made c.args.self.now.world) c.args.self.now.storage (Calls 0)) (scene_of (g.W.SmcPort.ram c.run.new.self.world) c.run.new.self.storage) (g.W.SmcPort.made c.run.new.self.world) (g.W.SmcPort.has_room c.run.new.self.world) c.in_err-run.field-0.0)
    c.invoke_argument-arg.ensures c.in_err-run.ensures.run)

pub returns-in_err-run-clause-causes : goal.returns-in_err-run-clause-causes
returns-in_err-run-clause-causes g c = λ alive.
    has_its_cause (limits_of c.args.self.now c.args.op.now.cancel_after) (invoke_call c.args.session c.args.func c.args.op.now c.args.sent) (scene_of (g.W.SmcPort.ram c.args.self.now.world) c.args.self.now.storage) (g.W.SmcPort.made c.args.self.now.world) c.from_residual-in_err-run.result (scene_of (g.W.SmcPort.ram c.run.new.self.world) c.run.new.self.storage) (g.W.SmcPort.made c.run.new.self.world) (g.W.SmcPort.has_room c.run.new.self.world)
    c.check_alive.ensures.tries (returns-in_err-run-clause-run g c alive)

pub returns-in_err-run-clause-retried_stays : goal.returns-in_err-run-clause-retried_stays
returns-in_err-run-clause-retried_stays g c = λ number retried.
    retried_kept c.from_residual-in_err-run.result c.in_err-run.field-0.0 c.args.self.now.storage c.run.new.self.storage number c.from_residual-in_err-run.ensures.1 c.in_err-run.ensures.storage retried

pub returns-clause-run : goal.returns-clause-run
returns-clause-run g c = λ alive.
    subst (λ (arg : MsgArg). Went (limits_of c.args.self.now c.args.op.now.cancel_after) (call_of arg c.args.op.now c.args.session) (moment (g.W.SmcPort.ram c.args.self.now.world) (g.W.SmcPort.made c.args.self.now.world) c.args.self.now.storage (Calls 0)) (moment (g.W.SmcPort.ram c.run.new.self.world) (g.W.SmcPort.made c.run.new.self.world) c.run.new.self.storage Ended))
    c.invoke_argument-arg.ensures c.in_ok-run.ensures.run

pub returns-clause-causes : goal.returns-clause-causes
returns-clause-causes g c = λ alive.
    has_its_cause (limits_of c.args.self.now c.args.op.now.cancel_after) (invoke_call c.args.session c.args.func c.args.op.now c.args.sent) (scene_of (g.W.SmcPort.ram c.args.self.now.world) c.args.self.now.storage) (g.W.SmcPort.made c.args.self.now.world) (Ok c.result_in.result) (scene_of (g.W.SmcPort.ram c.run.new.self.world) c.run.new.self.storage) (g.W.SmcPort.made c.run.new.self.world) (g.W.SmcPort.has_room c.run.new.self.world)
    c.check_alive.ensures.tries (returns-clause-run g c alive)

pub returns-in_err-run-clause-few : goal.returns-in_err-run-clause-few
returns-in_err-run-clause-few g c =
    makes_few (limits_of c.args.self.now c.args.op.now.cancel_after) (invoke_call c.args.session c.args.func c.args.op.now c.args.sent) (scene_of (g.W.SmcPort.ram c.args.self.now.world) c.args.self.now.storage) (g.W.SmcPort.made c.args.self.now.world) c.from_residual-in_err-run.result (scene_of (g.W.SmcPort.ram c.run.new.self.world) c.run.new.self.storage) (g.W.SmcPort.made c.run.new.self.world) (g.W.SmcPort.has_room c.run.new.self.world)
    c.check_alive.ensures.tries (returns-in_err-run-clause-run g c c.in_ok-check_alive.ensures.alive)

pub returns-clause-few : goal.returns-clause-few
returns-clause-few g c =
    makes_few (limits_of c.args.self.now c.args.op.now.cancel_after) (invoke_call c.args.session c.args.func c.args.op.now c.args.sent) (scene_of (g.W.SmcPort.ram c.args.self.now.world) c.args.self.now.storage) (g.W.SmcPort.made c.args.self.now.world) (Ok c.result_in.result) (scene_of (g.W.SmcPort.ram c.run.new.self.world) c.run.new.self.storage) (g.W.SmcPort.made c.run.new.self.world) (g.W.SmcPort.has_room c.run.new.self.world)
    c.check_alive.ensures.tries (returns-clause-run g c c.in_ok-check_alive.ensures.alive)
