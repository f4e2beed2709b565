use Rattle.std.proofs.Common.{◌≡◌, map, ◌++◌}
use Rattle.std.specs.Prelude.{take, drop}
use Rattle.kernel_state.specs.Cancelling.{marked_by}
use Rattle.kernel_state.proofs.cancellation.mark_calls.Given as goal

abbrev pub invariant-loop-beside : goal.invariant-loop-beside
invariant-loop-beside l =
    l.cancellations
    ≡ map (marked_by (record { session = l.session; cancel_id = l.cancel_id })) (take l.beside-index l.fn.cancellations) ++ drop l.beside-index l.fn.cancellations
