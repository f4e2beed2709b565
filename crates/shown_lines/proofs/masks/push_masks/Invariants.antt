use Rattle.std.proofs.Common.{◌≡◌, List, ◌++◌}
use Rattle.std.specs.Prelude.{slice_get}
use Rattle.kernel_model.specs.Kernel.{ThreadSlot}
use Rattle.kernel_state.specs.StandsFor.{AreSlots}
use Rattle.kernel_state.specs.declared.cancellation.Cancellation.{Cancellation}
use Rattle.live_play.specs.State.{masked_line, text_if, texts_below}
use Rattle.shown_lines.proofs.masks.push_masks.Given as goal

abbrev pub invariant-loop-number : goal.invariant-loop-number
invariant-loop-number l =
    (besides : List Cancellation) (held : List ThreadSlot) → AreSlots l.slots besides held
    → l.text.items ≡ l.initial.text.items ++ texts_below l.number (λ number. text_if (masked_line number) (slice_get held number))
