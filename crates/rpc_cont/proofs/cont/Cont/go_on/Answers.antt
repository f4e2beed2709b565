use Rattle.rpc_cont.proofs.Asking.{where_there, holds_there, object-asks, object-gives}
use Rattle.ta_step.specs.declared.stop.Request.TheVariants as request
use Rattle.rpc_cont.proofs.cont.Cont.go_on.Goals as goal

pub returns-in-Ask-clause-turns : goal.returns-in-Ask-clause-turns
returns-in-Ask-clause-turns g c owner image asked names =
    let old = c.args.self.now in
    where_there old.machine _ _ c.requires.machine
    (λ m is asks here at came.
    object-asks g.M.TaMemory.bytes owner image old c.wait_for.new.self c.wait_for.result here m c.args.call asked c.args.state c.args.step
    c.in-Ask.rpc c.in-Ask.payload names c.in-Ask.is c.wait_for.ensures.stays c.wait_for.ensures.answer c.requires.memory at is asks came)

pub returns-in-Done-clause-turns : goal.returns-in-Done-clause-turns
returns-in-Done-clause-turns g c owner image asked names =
    let old = c.args.self.now in
    where_there old.machine _ _ c.requires.machine
    (λ m is asks here at came.
    object-gives g.M.TaMemory.bytes owner image old c.give.new.self here m c.args.call asked c.args.step
    c.in-Done.result c.in-Done.value names c.in-Done.is c.give.ensures.stays c.requires.memory c.requires.object at asks
    (holds_there old.machine _ m is c.give.ensures.gives (request.Object c.args.call) asks.asks))
