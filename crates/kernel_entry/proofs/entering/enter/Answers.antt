use Rattle.kernel_entry.proofs.entering.enter.Goals as goal

pub returns-in-Fast : goal.returns-in-Fast
returns-in-Fast c = c.enter_at_once.ensures c.args.lane.now

pub returns-in-Unknown : goal.returns-in-Unknown
returns-in-Unknown c = c.enter_at_once-in-Unknown.ensures c.args.lane.now
