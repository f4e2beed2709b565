use Rattle.std.proofs.Common.{subst, sym}
use Rattle.rpc_cont.specs.Advancing.{CanAdvance}
use Rattle.kernel_state.specs.Calls.{bytes_of}
use Rattle.kernel_state.proofs.Granting.{granted_call_runs}
use Rattle.kernel_state.proofs.work.Work.run.Goals as goal

-- src/running.rt:26:21
pub advance-stop-requires-clause-runs : goal.advance-stop-requires-clause-runs
advance-stop-requires-clause-runs c =
    subst (CanAdvance bytes_of) (sym c.deref_mut.ensures.value)
    (granted_call_runs c.args.self.steps c.args.self.call c.in-Running.cont c.in-Running.is c.args.self.ready)
