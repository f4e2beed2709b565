use Rattle.begin_call.specs.Begins.{who_begins}
use Rattle.begin_call.specs.Points.{points_of}
use Rattle.kernel_state.specs.Setup.{application_of}
use Rattle.rpc_cont.specs.Conts.{kept_params}
use Rattle.kernel_entry.proofs.InSession.{came_waiting}
use Rattle.kernel_entry.proofs.in_session.work_or_wait.Goals as goal

pub returns-then-is_held-clause-came : goal.returns-then-is_held-clause-came
returns-then-is_held-clause-came c boot instance there known =
    came_waiting c.args.tables.now c.join_line.new.tables c.args.cont.now c.join_line.new.cont (application_of c.args.call.app)
    (who_begins boot c.args.tables.now c.args.call.slot c.args.cont.now) c.args.call.session instance (kept_params c.args.cont.now.params) (points_of c.args.call.points)
    c.is_held.result there c.requires.works c.is_held.ensures c.if-is_held.true (c.join_line.ensures.came boot)
