use Rattle.rpc_cont.specs.Conts.{job_of}
use Rattle.rpc_cont.proofs.Answered.{seen-waiting, waits-there}
use Rattle.rpc_cont.proofs.cont.Cont.see_cancel.Goals as goal
use Rattle.rpc_cont.proofs.cont.Cont.see_cancel.Goals.{in-Some, in_default}

pub returns-clause-waits : goal.returns-clause-waits
returns-clause-waits g c owner job waits =
    let bytes = g.M.TaMemory.bytes in
    let old = c.args.self.now in
    elim c.match-self.branch [
      | in-Some w ↦ seen-waiting bytes owner old c.match-self.self w.in-Some.machine w.see_cancel.new.self job w.in-Some.is w.see_cancel.ensures w.self-is waits
      | in_default w ↦ absurd (waits-there bytes owner old (job_of bytes old) job w.in_default.is waits)
    ]
