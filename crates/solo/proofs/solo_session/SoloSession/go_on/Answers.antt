use Rattle.std.proofs.Common.{ap}
use Rattle.solo.proofs.Line.{line_left}
use Rattle.solo.proofs.Onward.{goes_so}
use Rattle.solo.specs.Standing.{app_in}
use Rattle.own_model.specs.Solo.{without_waiter}
use Rattle.solo.proofs.solo_session.SoloSession.go_on.Goals as goal

pub returns-clause-goes_on : goal.returns-clause-goes_on
returns-clause-goes_on c solo w at beside is waits number works home =
    let s = c.args.self.now in
    let left = c.leave_line in
    goes_so (app_in s) (app_in left.new.self) c.begin.new.self c.args.cont.now c.begin.new.cont solo w at c.args.number (ap app_in left.ensures.stays) number is
    (c.begin.ensures.begins (without_waiter solo c.args.number) w.call at w.params
    (line_left s left.new.self solo c.args.number left.ensures.stays left.ensures.after beside) is waits works home)
