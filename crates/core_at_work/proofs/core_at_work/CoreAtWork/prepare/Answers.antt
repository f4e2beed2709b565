-- Nobody comes in.
use Rattle.core_at_work.proofs.Kept.{as_before, with_room}
use Rattle.core_at_work.proofs.core_at_work.CoreAtWork.prepare.Goals as goal

pub invariant_of-self : goal.invariant_of-self
invariant_of-self c =
    let old = c.args.self.now in
    record {
      own = as_before old.core c.prepare.new.core old.outgoing.items
          (with_room old.core c.prepare.new.core c.prepare.ensures.room) old.own;
    }
