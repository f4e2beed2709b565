use Rattle.std.proofs.Common.{◌≡◌, Some}
use Rattle.job_model.specs.Owner.{owner_of}
use Rattle.job_model.specs.Job.{Nothing}
use Rattle.job_model.specs.Steps.{Advance}
use Rattle.rpc_cont.specs.Conts.{job_with}
use Rattle.rpc_cont.specs.Running.{IsTurn}
use Rattle.ta_step.specs.Machine.{state_of}
use Rattle.rpc_cont.proofs.Asking.{holds_as}
use Rattle.rpc_cont.proofs.Runs.{ran_turn}
use Rattle.rpc_cont.proofs.cont.Cont.turn.Goals as goal

pub returns-clause-turns : goal.returns-clause-turns
returns-clause-turns g c =
    let bytes = g.M.TaMemory.bytes in
    let image = c.args.image.now in
    let old = c.args.self.now in
    let m = c.in-Some.machine in
    let is : old.machine ≡ Some m = cc in
    holds_as old.machine (Some m) _ is
    (λ here at.
    ran_turn (job_with Nothing (owner_of c.args.uuid c.args.self.now.key) old) image here (state_of bytes m) c.args.steps _
    (λ (turn : Advance). IsTurn bytes (owner_of c.args.uuid c.args.self.now.key) image c.stopped-stop.new.self turn c.stopped-stop.result)
    c.run_machine-stop.ensures.runs (c.stopped-stop.ensures.serves here at))
