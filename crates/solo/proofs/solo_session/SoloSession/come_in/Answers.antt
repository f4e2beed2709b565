use Rattle.solo.proofs.Adding.{added, on_ok}
use Rattle.solo.proofs.solo_session.SoloSession.come_in.Goals as goal

pub returns-clause-ok : goal.returns-clause-ok
returns-clause-ok c solo own stands is =
    on_ok c.add.result _ _
    (λ after. added c.args.self.now c.add.new.self solo c.args.call own c.add.ensures.stays after stands is) c.add.ensures.ok
