use Rattle.std.proofs.lemmas.Result.{on_err_weaker}
use Rattle.solo.proofs.Adding.{on_ok}
use Rattle.group_solo.proofs.Adding.{added, reserved}
use Rattle.group_solo.proofs.group.GroupSolo.come_in.Goals as goal

pub returns-clause-ok : goal.returns-clause-ok
returns-clause-ok c g own stands is =
    on_ok c.add.result _ _ (λ after. added c.args.self.now c.add.new.self g c.args.call own stands c.add.ensures.stays after is) c.add.ensures.ok

pub returns-clause-err : goal.returns-clause-err
returns-clause-err c g stands =
    on_err_weaker c.add.result (λ same. reserved c.args.self.now c.add.new.self g c.add.ensures.stays same stands) c.add.ensures.err
