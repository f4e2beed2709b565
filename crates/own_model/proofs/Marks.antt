-- The mark of a cancelled call: a call that is there but for it, and which calls are in the slots whatever is marked.
use Rattle.std.proofs.Common.{◌≡◌, ℕ, zero, suc, List, [], ◌∷◌, Option, Some, None, refl}
use Rattle.std.specs.Prelude.{map}
use Rattle.std.specs.Option.{option_map}
use Rattle.kernel_model.specs.Kernel.{Active, Cancel, Free, Suspended, ThreadSlot, PendingCall}
use Rattle.kernel_model.specs.Kernel.{cancelled_slot, cancelled_slots}
use Rattle.kernel_model.specs.Sound.{unmarked}
use Rattle.own_model.specs.Tied.{call_at, call_in}

-- ---- which stay tied

-- a call that is there but for its mark
pub there_but_marked : (o : Option PendingCall) (call : PendingCall) → option_map unmarked o ≡ Some (unmarked call)
    → (now : PendingCall) × (o ≡ Some now) × (unmarked now ≡ unmarked call)
there_but_marked None call e = absurd cc
there_but_marked (Some now) call e = (now, refl, cc)

-- ---- cancelled calls

marked_in : (cancel : Cancel) (held : ThreadSlot)
    → option_map unmarked (call_in (cancelled_slot cancel held)) ≡ option_map unmarked (call_in held)
marked_in cancel Free = refl
marked_in cancel (Active cpu call) = refl
marked_in cancel (Suspended client call) = refl

marked_at : (cancel : Cancel) (slots : List ThreadSlot) (at : ℕ)
    → option_map unmarked (call_at (map (cancelled_slot cancel) slots) at) ≡ option_map unmarked (call_at slots at)
marked_at cancel [] at = refl
marked_at cancel (held ∷ slots) zero = marked_in cancel held
marked_at cancel (held ∷ slots) (suc at) = marked_at cancel slots at

pub cancels_mark : (slots : List ThreadSlot) (cancels : Option Cancel) (at : ℕ)
    → option_map unmarked (call_at (cancelled_slots slots cancels) at) ≡ option_map unmarked (call_at slots at)
cancels_mark slots None at = refl
cancels_mark slots (Some cancel) at = marked_at cancel slots at
