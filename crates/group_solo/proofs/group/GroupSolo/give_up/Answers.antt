use Rattle.std.proofs.Common.{ℕ, None, false, refl, sym, subst}
use Rattle.group_model.specs.Group.{gives_up, without_waiter}
use Rattle.job_model.specs.Job.{of_tee}
use Rattle.job_model.specs.Point.{no_params}
use Rattle.kernel_model.specs.Kernel.{Ends}
use Rattle.group_solo.proofs.Line.{line_left}
use Rattle.group_solo.proofs.group.GroupSolo.give_up.Goals as goal
use Rattle.group_solo.specs.Calls.{alone}
use Rattle.group_solo.specs.Standing.{ComesTo, IsBeside}
use Rattle.group_solo.specs.declared.kept_call.KeptCall.{KeptCall}

pub returns-clause-gives_up : goal.returns-clause-gives_up
returns-clause-gives_up c g w beside is number =
    let new : KeptCall = record c.args.call.now { cont = c.end_with.new.cont } in
    subst (λ (n : ℕ). ComesTo c.leave_line.new.self new n g (gives_up g w c.args.code)) number (record {
      beside = subst (λ (n : ℕ). IsBeside c.leave_line.new.self (without_waiter g n)) (sym number)
          (line_left c.args.self.now c.leave_line.new.self g c.args.number c.leave_line.ensures.stays c.leave_line.ensures.after beside);
      call = record w.call { phase = Ends (of_tee c.args.code) no_params false None };
      is = record { alone = c.end_with.ensures (alone w.call) is.alone; session = is.session; instance = is.instance; room = is.room };
      calls = refl;
    })
