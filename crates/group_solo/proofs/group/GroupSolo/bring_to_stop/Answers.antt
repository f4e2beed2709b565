use Rattle.std.proofs.Common.{◌≡◌, Some, subst}
use Rattle.kernel_model.specs.Kernel.{CallPhase}
use Rattle.group_model.specs.Group.{going_in}
use Rattle.solo.proofs.Outgoing.{not_working, runs_as}
use Rattle.solo.specs.Stepping.{HasRoomIn}
use Rattle.group_solo.proofs.Outgoing.{rests_so}
use Rattle.group_solo.proofs.group.GroupSolo.bring_to_stop.Goals as goal

pub returns-in-Runs-clause-going : goal.returns-in-Runs-clause-going
returns-in-Runs-clause-going c most g own going beside rising is room e =
    let runs = runs_as c.args.call.now.cont own.phase c.in-Runs.is is.alone.phase in
    c.take_on.ensures.going most g own going runs.0 beside rising is runs.1
    (subst (HasRoomIn most own.steps) runs.1 room)
    (subst (λ (p : CallPhase). going_in most g own p ≡ Some going) runs.1 e)

pub returns-in-Ends-clause-going : goal.returns-in-Ends-clause-going
returns-in-Ends-clause-going c most g own going beside rising is room e = c.show_once.ensures.going most g own going beside is e

pub returns-in-Asks-clause-going : goal.returns-in-Asks-clause-going
returns-in-Asks-clause-going c most g own going beside rising is room e =
    rests_so c.args.self.now c.args.call.now g own going most beside is (not_working c.args.call.now.cont.phase c.in-Asks.is).0
    (not_working c.args.call.now.cont.phase c.in-Asks.is).1 e
