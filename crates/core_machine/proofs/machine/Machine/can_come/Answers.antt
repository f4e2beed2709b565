use Rattle.core_machine.proofs.Played.{can_enter, can_leave, enter_can, leave_can}
use Rattle.core_machine.proofs.machine.Machine.can_come.Goals as goal

pub returns-in-Comes : goal.returns-in-Comes
returns-in-Comes c =
    let machine = c.args.self.now in
    rw c.in-Comes.is (
      λ is. enter_can machine c.in-Comes.visitor (c.may_enter.ensures.0 is),
      λ can. c.may_enter.ensures.1 (can_enter machine c.in-Comes.visitor can),
    )

pub returns-in-Leaves : goal.returns-in-Leaves
returns-in-Leaves c =
    let machine = c.args.self.now in
    rw c.in-Leaves.is (
      λ is. leave_can machine c.in-Leaves.cpu (c.is_inside.ensures.0 is),
      λ can. c.is_inside.ensures.1 (can_leave machine c.in-Leaves.cpu can),
    )
