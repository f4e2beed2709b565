use Rattle.std.proofs.Common.{sym, ap, ◌∙◌}
use Rattle.kernel_entry.proofs.Carries.{carried_running}
use Rattle.kernel_entry.proofs.carrying.carried_call.Goals as goal

pub returns-in-Runs : goal.returns-in-Runs
returns-in-Runs c call is = carried_running c.args.cont call (sym (ap (λ cont. cont.phase) c.deref.ensures) ∙ c.in-Runs.is) is
