use Rattle.std.proofs.Common.{List}
use Rattle.kernel_model.specs.Application.{Native}
use Rattle.trace_text.specs.declared.trace.Trace.{Trace}
use Rattle.trace_player.specs.Starting.{IsAtStart}
use Rattle.alone_runner.proofs.Digests.{Digesting}
use Rattle.alone_runner.proofs.digesting.digest_items.Given as goal

-- the items so far were played, their answers are counted, and the hasher holds their text
abbrev pub invariant-loop-item : goal.invariant-loop-item
invariant-loop-item l = (natives : List Native) (trace : Trace) → IsAtStart natives trace l.items l.fn.player
    → Digesting natives trace l.items l.item-index l.player l.hasher l.counts l.lines.items
