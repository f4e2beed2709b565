-- Nothing has come where there is no room for the answers.
use Rattle.std.proofs.Common.{refl}
use Rattle.core_machine.proofs.Served.{same_events}
use Rattle.core_machine.proofs.machine.Machine.serve.Goals as goal

pub returns-then-is_err-clause-extends : goal.returns-then-is_err-clause-extends
returns-then-is_err-clause-extends c = same_events c.args.self.now c.args.self.now refl refl refl
