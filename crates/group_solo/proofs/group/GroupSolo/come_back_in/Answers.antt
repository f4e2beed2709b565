use Rattle.std.proofs.Common.{refl}
use Rattle.group_solo.proofs.Back.{answered, not_waiting}
use Rattle.group_solo.proofs.Onward.{retested}
use Rattle.group_solo.proofs.Putting.{comes_with}
use Rattle.group_solo.specs.Calls.{alone}
use Rattle.group_solo.specs.Standing.{app_in}
use Rattle.group_solo.proofs.group.GroupSolo.come_back_in.Goals as goal

pub returns-in-Waits-clause-comes : goal.returns-in-Waits-clause-comes
returns-in-Waits-clause-comes c g next own beside is e =
    retested (app_in c.args.self.now) c.retest.new.self c.args.call.now c.retest.new.call g next c.args.number own c.args.input.now c.in-Waits.is e
    (λ w its waits number input so. c.retest.ensures.retests g next w beside its waits number input so) is

pub returns-in-Runs : goal.returns-in-Runs
returns-in-Runs c = record {
  comes = λ g next own beside is e.
      comes_with c.args.self.now g next c.args.number _ beside
      (answered (app_in c.args.self.now) g next c.args.number c.args.input.now c.args.call.now _ own refl is
      (not_waiting c.args.call.now.cont.phase c.in-Runs.is) e
      (λ z then so. c.take_answer.ensures (app_in c.args.self.now) z then c.args.number (alone own) is.alone so));
  app = refl;
  calls = refl;
}
