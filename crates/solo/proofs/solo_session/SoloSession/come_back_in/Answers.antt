use Rattle.std.proofs.Common.{refl}
use Rattle.solo.proofs.Onward.{retested}
use Rattle.solo.proofs.Putting.{comes_with}
use Rattle.solo.specs.Standing.{app_in}
use Rattle.solo.proofs.solo_session.SoloSession.come_back_in.Goals as goal

pub returns-in-Waits-clause-comes : goal.returns-in-Waits-clause-comes
returns-in-Waits-clause-comes c solo next call beside is fits e =
    retested (app_in c.args.self.now) c.retest.new.self c.args.cont.now c.retest.new.cont solo next c.args.number call c.args.input.now c.in-Waits.is fits e
    (λ w its waits number input works. c.retest.ensures.retests solo w beside its waits number input works) is

pub returns-in-Runs : goal.returns-in-Runs
returns-in-Runs c = record {
  comes = λ solo next call beside is fits e.
      comes_with c.args.self.now solo next c.args.number c.take_answer.new.cont beside
      (c.take_answer.ensures (app_in c.args.self.now) solo next c.args.number call is e);
  app = refl;
  calls = refl;
}
