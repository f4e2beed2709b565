use Rattle.std.proofs.Common.{None, sym}
use Rattle.group_model.specs.Group.{opens_again}
use Rattle.job_model.specs.declared.call_kind.CallKind.TheVariants as kind
use Rattle.solo.proofs.Stepped.{some_map}
use Rattle.group_solo.proofs.Onward.{by_kind, comes_same, lost_anew}
use Rattle.group_solo.specs.Standing.{app_in}
use Rattle.group_solo.proofs.group.GroupSolo.begin_anew.Goals as goal

pub returns-in-Open-clause-begins : goal.returns-in-Open-clause-begins
returns-in-Open-clause-begins c g next w session beside is number waits there e =
    let app = app_in c.args.self.now in
    let told = some_map (opens_again app g w session) w.call.room next
    (by_kind app g next w session c.args.call.now.cont.kind kind.Open None is.alone.kind c.in-Open.is e) in
    comes_same c.open_again.new.self c.open_again.new.call c.args.number g _ _ (sym told.1.1)
    (c.open_again.ensures.opens g w session told.0 beside is number waits there told.1.0)

pub returns-in-Invoke-clause-begins : goal.returns-in-Invoke-clause-begins
returns-in-Invoke-clause-begins c g next w session beside is number waits there e =
    comes_same c.give_up.new.self c.give_up.new.call c.args.number g _ _
    (lost_anew (app_in c.args.self.now) g next w session c.args.call.now.cont.kind is.alone.kind c.in-Invoke.is e)
    (c.give_up.ensures.gives_up g w beside is number)
