use Rattle.std.proofs.Common.{◌≡◌, Some, subst}
use Rattle.kernel_model.specs.Kernel.{CallPhase}
use Rattle.own_model.specs.Solo.{going_in}
use Rattle.solo.proofs.Outgoing.{not_working, rests_so, runs_as}
use Rattle.solo.specs.Stepping.{HasRoomIn}
use Rattle.solo.proofs.solo_session.SoloSession.bring_to_stop.Goals as goal

pub returns-in-Runs-clause-going : goal.returns-in-Runs-clause-going
returns-in-Runs-clause-going c most solo call going beside is room e =
    let runs = runs_as c.args.cont.now call.phase c.in-Runs.is is.phase in
    c.take_on.ensures.going most solo call going runs.0 beside is runs.1
    (subst (HasRoomIn most call.steps) runs.1 room)
    (subst (λ (p : CallPhase). going_in most solo call p ≡ Some going) runs.1 e)

pub returns-in-Ends-clause-going : goal.returns-in-Ends-clause-going
returns-in-Ends-clause-going c most solo call going beside is room e = c.show_once.ensures.going most solo call going beside is e

pub returns-in-Asks-clause-going : goal.returns-in-Asks-clause-going
returns-in-Asks-clause-going c most solo call going beside is room e =
    rests_so c.args.self.now c.args.cont.now solo call going most beside is (not_working c.args.cont.now.phase c.in-Asks.is).0
    (not_working c.args.cont.now.phase c.in-Asks.is).1 e
