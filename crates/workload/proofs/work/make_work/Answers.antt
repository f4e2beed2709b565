use Rattle.workload.specs.Work.{made_items}
use Rattle.workload.proofs.Items.{one_more}
use Rattle.workload.proofs.work.make_work.Goals as goal

pub loop-left-preserved : goal.loop-left-preserved
loop-left-preserved c =
    one_more (made_items c.args.seed c.args.count) c.loop-left.items.items c.push_items.new.items.items c.loop-left.x c.next-x.result c.loop-left.left (c.loop-left-test.true) c.loop-left.invariant c.next-x.ensures
    c.in_ok-push_items.ensures
