use Rattle.std.proofs.Common.{◌≡◌, List}
use Rattle.kernel_model.specs.Application.{Native}
use Rattle.native_tas.specs.Table.{drivers}
use Rattle.notify_text.specs.declared.notify_trace.NotifyTrace.{NotifyTrace}
use Rattle.notify_runner.specs.Starting.{IsAtStart}
use Rattle.notify_runner.proofs.Gathered.{Gathering}
use Rattle.notify_runner.proofs.steps.play_steps.Given as goal

-- the steps so far were played, all their text was put but the gathered lines, and the sink has counted no fault
abbrev pub invariant-loop-at : goal.invariant-loop-at
invariant-loop-at g l = record {
  gathering : (apps : List Native) (told : NotifyTrace)
      → IsAtStart apps (drivers l.natives) told l.items l.fn.signals l.fn.player
      → Gathering apps (drivers l.natives) told l.items l.at l.signals l.player l.lines.items
      (g.K.Sink.held l.fn.out) (g.K.Sink.held l.out);
  stays : g.K.Sink.faults l.out ≡ g.K.Sink.faults l.fn.out;
}
