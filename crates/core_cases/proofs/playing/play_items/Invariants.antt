use Rattle.std.proofs.Common.{◌≡◌, List}
use Rattle.core_cases.proofs.playing.play_items.Given as goal
use Rattle.kernel_model.specs.Application.{Native}
use Rattle.trace_player.proofs.Playable.{Playing}
use Rattle.trace_player.specs.Playing.{terms_in}
use Rattle.trace_player.specs.Starting.{IsAtStart}
use Rattle.trace_text.specs.declared.trace.Trace.{Trace}

-- the items so far were played, and their lines are held; the core's terms are what they were
abbrev pub invariant-loop-item : goal.invariant-loop-item
invariant-loop-item l = record {
  played : (natives : List Native) (trace : Trace) → IsAtStart natives trace l.items l.fn.player
      → Playing natives trace l.items l.item-index l.player l.lines.items;
  terms : terms_in l.player ≡ terms_in l.fn.player;
}
