use Rattle.new_calls.proofs.Coming.{taken_at_end, taken_by_test}
use Rattle.new_calls.specs.Commands.{tests_of}
use Rattle.new_calls.specs.Deciding.{call_of, settled_of, taken_of}
use Rattle.new_calls.proofs.call.CallAtEntry.plan.Goals as goal

pub returns-in-Ok-clause-decides : goal.returns-in-Ok-clause-decides
returns-in-Ok-clause-decides c =
    let call = call_of c.args.self.now in
    taken_at_end (tests_of c.args.command call) c.args.lane.now c.args.reads.now c.command.new.reads (taken_of call c.in-Ok.plan) c.in-Ok.ensures.decides

pub returns-in-Err-Settled-clause-decides : goal.returns-in-Err-Settled-clause-decides
returns-in-Err-Settled-clause-decides c =
    let call = call_of c.args.self.now in
    taken_by_test (tests_of c.args.command call) c.args.lane.now c.args.reads.now c.command.new.reads (settled_of call c.in-Err-Settled.settled)
    (rw c.in-Err-Settled.field-0-is at c.in-Err-Settled.ensures.decides)
