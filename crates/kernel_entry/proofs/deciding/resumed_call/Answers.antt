use Rattle.kernel_entry.proofs.Decisions.{call_decided, call_given, call_suspended}
use Rattle.kernel_entry.proofs.deciding.resumed_call.Goals as goal

pub returns-clause-decides : goal.returns-clause-decides
returns-clause-decides c kernel stands =
    call_decided c.args.parts.now kernel c.args.regs.now.a c.args.lane.now c.args.reads.now c.decide.new.reads c.decide.result stands
    (c.decide.ensures.ok c.args.parts.now.cancellations.items kernel.slots stands.slots)

pub returns-clause-given : goal.returns-clause-given
returns-clause-given c =
    call_given c.args.parts.now c.args.regs.now.a c.args.lane.now c.args.reads.now c.decide.new.reads c.decide.result
    (λ kernel stands. c.decide.ensures.ok c.args.parts.now.cancellations.items kernel.slots stands.slots)

pub returns-clause-found : goal.returns-clause-found
returns-clause-found c =
    call_suspended c.args.parts.now c.args.regs.now.a c.args.lane.now c.args.reads.now c.decide.new.reads c.decide.result c.requires c.decide.ensures.ok
    c.decide.ensures.slot c.decide.ensures.app
