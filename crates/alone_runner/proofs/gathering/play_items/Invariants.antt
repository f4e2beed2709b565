use Rattle.std.proofs.Common.{◌≡◌, List}
use Rattle.kernel_model.specs.Application.{Native}
use Rattle.trace_text.specs.declared.trace.Trace.{Trace}
use Rattle.trace_player.specs.Starting.{IsAtStart}
use Rattle.alone_runner.proofs.Gathered.{Gathering}
use Rattle.alone_runner.proofs.gathering.play_items.Given as goal

-- the items so far were played, all their text was put but the gathered lines, and the sink has counted no fault
abbrev pub invariant-loop-item : goal.invariant-loop-item
invariant-loop-item g l = record {
  gathering : (natives : List Native) (trace : Trace) → IsAtStart natives trace l.items l.fn.player
      → Gathering natives trace l.items l.item-index l.player l.lines.items (g.K.Sink.held l.fn.out)
      (g.K.Sink.held l.out);
  stays : g.K.Sink.faults l.out ≡ g.K.Sink.faults l.fn.out;
}
