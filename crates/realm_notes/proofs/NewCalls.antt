-- The slot that a new call is planned to take.
use Rattle.std.proofs.Common.{◌≡◌, Some, ◌∙◌}
use Rattle.std.specs.Prelude.{slice_get}
use Rattle.kernel_entry.proofs.Decisions.{same_lowest}
use Rattle.kernel_entry.specs.Deciding.{CanBegin}
use Rattle.kernel_entry.specs.declared.deciding.PlannedCall.{PlannedCall}
use Rattle.kernel_model.proofs.SoundSlots.{free_there}
use Rattle.kernel_model.specs.Kernel.{Free, Kernel}
use Rattle.kernel_state.specs.StandsFor.{StandsFor}
use Rattle.kernel_state.specs.declared.parts.Parts.{Parts}

-- it is free
pub planned_free : (parts : Parts) (k : Kernel) (planned : PlannedCall) → CanBegin parts planned.entered planned.plan → StandsFor parts k
    → slice_get k.slots planned.entered.slot ≡ Some Free
planned_free parts k planned begins stands =
    free_there k.slots planned.entered.slot
    (same_lowest parts.slots parts.cancellations.items k.slots stands.slots ∙ begins.lowest)
