use Rattle.begin_call.proofs.Starting.{job_starts}
use Rattle.begin_call.specs.Found.{beginning_with}
use Rattle.begin_call.specs.Points.{points_of}
use Rattle.begin_call.proofs.found.start.Goals as goal

pub returns-clause-runs : goal.returns-clause-runs
returns-clause-runs c = (
  job_starts c.args.cont.now c.start_on.new.self c.held_of-held.result
      (beginning_with c.args.found.program c.args.found.memory c.args.cont.now.cancelled) c.args.found.uuid c.args.cont.now.objects (points_of c.args.found.points)
      c.requires.fresh c.held_of-held.ensures.uuid
      (λ job. c.held_of-held.ensures.begins c.args.cont.now.cancelled job (points_of c.args.found.points)) c.start_on.ensures.begins,
  c.start_on.ensures.runs,
)
