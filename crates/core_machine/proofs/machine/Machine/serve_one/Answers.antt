use Rattle.core_machine.proofs.Served.{one_entry, one_exit}
use Rattle.core_machine.proofs.machine.Machine.serve_one.Goals as goal

pub returns-in-Comes-clause-serves : goal.returns-in-Comes-clause-serves
returns-in-Comes-clause-serves c =
    rw c.in-Comes.is (one_entry c.args.self.now c.enter.new.self c.args.answers.now.items c.in-Comes.visitor
    c.enter.result c.enter.ensures.enters c.enter.ensures.terms)

pub returns-in-Leaves-clause-serves : goal.returns-in-Leaves-clause-serves
returns-in-Leaves-clause-serves c =
    rw c.in-Leaves.is (one_exit c.args.self.now _ c.args.answers.now.items _ c.in-Leaves.cpu c.leave.result.regs
    c.leave.ensures.leaves c.leave.ensures.terms c.push_reserved.ensures.items)
