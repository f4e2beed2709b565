use Rattle.std.proofs.Common.{refl}
use Rattle.group_solo.proofs.Adding.{added_waiting}
use Rattle.group_solo.proofs.group.GroupSolo.wait_last.Goals as goal

pub returns-clause-waits : goal.returns-clause-waits
returns-clause-waits c g own stands is =
    added_waiting c.args.self.now _ g c.args.waiter c.args.call own stands refl c.push_reserved.ensures.items c.push_reserved-2.ensures.items is
