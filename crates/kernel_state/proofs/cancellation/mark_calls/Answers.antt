use Rattle.std.proofs.Common.{rules, arith, ◌∙◌, ap, slice_set}
use Rattle.std.proofs.lemmas.List.Edits.{map_over_more}
use Rattle.kernel_state.specs.Cancelling.{marked_by}
use Rattle.kernel_state.proofs.cancellation.mark_calls.Goals as goal

pub loop-beside-preserved : goal.loop-beside-preserved
loop-beside-preserved c =
    ap (slice_set c.loop-beside.cancellations c.loop-beside.beside-index) c.marked_by.ensures
    ∙ map_over_more (marked_by _) c.args.cancellations.now c.loop-beside.cancellations c.loop-beside.beside-index _
    (search (rules, arith)) c.loop-beside.invariant (search (rules))
