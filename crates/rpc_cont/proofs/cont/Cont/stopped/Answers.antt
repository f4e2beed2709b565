use Rattle.job_model.specs.Owner.{owner_of}
use Rattle.job_model.specs.Job.{Nothing}
use Rattle.job_model.specs.Steps.{Advance}
use Rattle.rpc_cont.specs.Conts.{body_at, job_with}
use Rattle.rpc_cont.specs.Running.{IsTurn}
use Rattle.std.proofs.Common.{◌≡◌, Some}
use Rattle.ta_step.specs.Machine.{state_of}
use Rattle.ta_step.specs.declared.stop.Stop.TheVariants as stop
use Rattle.rpc_cont.proofs.Asking.{holds_as, holds_there, where_there}
use Rattle.rpc_cont.proofs.Stopping.{asks_so, stops_so}
use Rattle.rpc_cont.proofs.cont.Cont.stopped.Goals as goal

pub returned-requires-clause-flag : goal.returned-requires-clause-flag
returned-requires-clause-flag g c =
    let is : c.args.self.now.machine ≡ Some c.in-Some.machine = cc in
    (holds_there c.args.self.now.machine _ c.in-Some.machine is c.requires.machine).flag

pub returns-in-Some-clause-serves : goal.returns-in-Some-clause-serves
returns-in-Some-clause-serves g c =
    let bytes = g.M.TaMemory.bytes in
    let image = c.args.image.now in
    let cont = c.args.self.now in
    let m = c.in-Some.machine in
    let is : cont.machine ≡ Some m = cc in
    holds_as cont.machine (Some m) _ is
    (λ here at.
    stops_so (job_with Nothing (owner_of c.args.uuid c.args.self.now.key) cont) image here (state_of bytes m) c.args.stop (stop.Ended c.in-Ended.result c.in-Ended.context)
    (λ (turn : Advance). IsTurn bytes (owner_of c.args.uuid c.args.self.now.key) image c.returned.new.self turn c.returned.result)
    c.in-Ended.is (c.returned.ensures.goes (owner_of c.args.uuid c.args.self.now.key) here at))

pub returns-in-Asks-clause-serves : goal.returns-in-Asks-clause-serves
returns-in-Asks-clause-serves g c =
    let bytes = g.M.TaMemory.bytes in
    let image = c.args.image.now in
    let cont = c.args.self.now in
    where_there cont.machine _ _ c.requires.machine
    (λ m is has here at.
    asks_so (job_with Nothing (owner_of c.args.uuid c.args.self.now.key) cont) (body_at bytes image cont.point (Some m)) image here (state_of bytes m)
    c.args.stop c.in-Asks.request
    (λ (turn : Advance). IsTurn bytes (owner_of c.args.uuid c.args.self.now.key) image c.ask.new.self turn c.ask.result)
    c.in-Asks.is (holds_there cont.machine _ m is (c.ask.ensures.asks image) here at))
