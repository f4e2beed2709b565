use Rattle.std.proofs.Common.{ap, subst, sym, ◌∙◌}
use Rattle.job_model.specs.Job.{Nothing}
use Rattle.job_model.specs.Steps.{Advance, on_to_next, job_after_return, still_to_come}
use Rattle.rpc_cont.specs.Conts.{job_with}
use Rattle.rpc_cont.specs.Running.{IsTurn}
use Rattle.ta_params.specs.declared.copied_params.CopiedParams.{CopiedParams}
use Rattle.ta_step.specs.Machine.{state_of}
use Rattle.rpc_cont.proofs.Returning.{followed_return}
use Rattle.rpc_cont.proofs.cont.Cont.returned.Goals as goal

pub returns-clause-goes : goal.returns-clause-goes
returns-clause-goes g c owner point at =
    let bytes = g.M.TaMemory.bytes in
    let image = c.args.image.now in
    let old = c.args.self.now in
    let left = c.take_result.new.self in
    let machine = state_of bytes c.args.machine in
    let job = job_with Nothing owner old in
    let coming = still_to_come point c.args.r0 job.points in
    let by_params = ap (λ (p : CopiedParams). on_to_next (job_after_return job point p c.args.r0 c.args.r1) image point machine coming) c.finish-memory.ensures.params in
    let takes = c.take_result.ensures.takes owner point at in
    subst (λ (turn : Advance). IsTurn bytes owner image c.follow.new.self turn c.follow.result)
    (followed_return owner image point machine (job_after_return job point c.finish-memory.result.1 c.args.r0 c.args.r1) left coming takes ∙ by_params)
    (c.follow.ensures.follows owner point machine
    (ap (λ x. x.point) c.take_result.ensures.stays ∙ at)
    (sym c.finish-memory.ensures.memory)
    (c.requires.flag ∙ sym (ap (λ x. x.cancelled) c.take_result.ensures.stays)))
