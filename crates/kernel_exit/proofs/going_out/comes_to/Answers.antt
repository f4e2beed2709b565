use Rattle.std.proofs.Common.{Option, subst}
use Rattle.kernel_state.specs.Tables.{tables_of}
use Rattle.rpc_cont.specs.declared.stop.ContStop.{ContStop as AnyStop}
use Rattle.kernel_exit.specs.GoingOut.{IsCarriedOut}
use Rattle.kernel_exit.proofs.ToBeTold.{ran_comes}
use Rattle.kernel_exit.proofs.going_out.comes_to.Goals as goal

pub returns-in-Some-clause-comes : goal.returns-in-Some-clause-comes
returns-in-Some-clause-comes c = λ call steps out.
    ran_comes (tables_of c.args.tables.now) c.args.cont.now c.after_grant.new.cont c.in-Some.why c.after_grant.new.tables c.after_grant.ensures.comes
    call steps (subst (λ (why : Option AnyStop). IsCarriedOut c.args.cont.now why call steps) c.in-Some.is out)
