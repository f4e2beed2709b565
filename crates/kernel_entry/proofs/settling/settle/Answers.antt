use Rattle.std.proofs.Common.{None, Some, refl}
use Rattle.kernel_model.specs.Application.{uuid_of}
use Rattle.kernel_model.specs.Kernel.{AnInvoke, AnOpen, Untold}
use Rattle.kernel_state.specs.Setup.{application_of}
use Rattle.kernel_entry.proofs.settling.settle.Goals as goal

pub returns-in-Call : goal.returns-in-Call
returns-in-Call c boot tables = rw c.in-Call.is (c.settled_call.ensures boot tables Untold None tt)

pub returns-in-Open : goal.returns-in-Open
returns-in-Open c boot tables =
    rw c.in-Open.is (c.settled_with.ensures boot tables (AnOpen c.in-Open.login) (Some (uuid_of (application_of c.in-Open.field-0))) refl)

pub returns-in-Invoke : goal.returns-in-Invoke
returns-in-Invoke c boot tables =
    rw c.in-Invoke.is (c.settled_call-in-Invoke.ensures boot tables (AnInvoke c.args.entered.now.head.func) None tt)
