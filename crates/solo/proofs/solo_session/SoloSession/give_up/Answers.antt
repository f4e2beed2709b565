use Rattle.std.proofs.Common.{None, false, refl}
use Rattle.job_model.specs.Job.{of_tee}
use Rattle.job_model.specs.Point.{no_params}
use Rattle.kernel_model.specs.Kernel.{Ends}
use Rattle.solo.proofs.Line.{line_left}
use Rattle.solo.proofs.solo_session.SoloSession.give_up.Goals as goal

pub returns-clause-gives_up : goal.returns-clause-gives_up
returns-clause-gives_up c solo call beside is = record {
  beside = line_left c.args.self.now c.leave_line.new.self solo c.args.number c.leave_line.ensures.stays c.leave_line.ensures.after beside;
  call = record call { phase = Ends (of_tee c.args.code) no_params false None };
  is = c.end_with.ensures call is;
  calls = refl;
}
