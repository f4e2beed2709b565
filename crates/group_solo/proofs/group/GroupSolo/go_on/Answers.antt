use Rattle.std.proofs.Common.{ap}
use Rattle.begin_call.specs.Points.{points_of}
use Rattle.group_model.specs.Group.{without_waiter}
use Rattle.group_solo.proofs.Line.{line_left}
use Rattle.group_solo.proofs.Onward.{gone_on}
use Rattle.group_solo.specs.Standing.{app_in}
use Rattle.group_solo.proofs.group.GroupSolo.go_on.Goals as goal

pub returns-clause-goes_on : goal.returns-clause-goes_on
returns-clause-goes_on c g b beside is number waits session there =
    let s = c.args.self.now in
    let left = c.leave_line in
    gone_on (app_in left.new.self) (app_in s) c.begin.new.self c.begin.new.call g b c.args.number (points_of c.args.points) (ap app_in left.ensures.stays)
    (c.begin.ensures.begins (without_waiter g c.args.number) b
    (line_left s left.new.self g c.args.number left.ensures.stays left.ensures.after beside) is number waits session there)
