use Rattle.std.proofs.Common.{◌≡◌, List}
use Rattle.client_text.specs.declared.script.Script.{Script}
use Rattle.kernel_model.specs.Application.{Native}
use Rattle.client_runner.proofs.Gathered.{Gathering}
use Rattle.client_runner.specs.Playing.{IsAtStart, player_of}
use Rattle.client_runner.proofs.playing.play_calls.Given as goal

-- the calls so far were made, all their text was put but the gathered lines, and the sink has counted no fault
abbrev pub invariant-loop-call : goal.invariant-loop-call
invariant-loop-call g l = record {
  gathering : (natives : List Native) (script : Script)
      → IsAtStart g.B.OfBoot.booted natives script l.calls (player_of l.fn.player.client l.fn.player.names)
      → Gathering g.B.OfBoot.booted natives script l.calls l.call-index (player_of l.player.client l.player.names) l.lines.items
      (g.K.Sink.held l.fn.out) (g.K.Sink.held l.out);
  stays : g.K.Sink.faults l.out ≡ g.K.Sink.faults l.fn.out;
}
