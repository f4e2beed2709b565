-- The definitions on small inputs.
use Rattle.std.specs.Prelude.{◌≡◌, ℕ, List, [], ◌∷◌, Some, None, Ok, Err}
use Rattle.thread_slots.specs.declared.bad_resume.BadResume.TheVariants.{NoSlot, NotSuspended, OtherClient}
use Rattle.thread_slots.specs.declared.slot.Slot.{Slot}
use Rattle.thread_slots.specs.declared.slots.TheConstants.{MAX_SLOTS}
use Rattle.thread_slots.specs.declared.slot.Slot.TheVariants.{Free, Active, Suspended}
use Rattle.thread_slots.specs.Slots.{lowest_free, resumed}

-- one call runs on processor 3, one of client 7 waits with 20, and one slot is free
abbrev pub three : List (Slot ℕ)
three = Active 3 ∷ Suspended 7 20 ∷ Free ∷ []

pub record Examples : Type 0 where
  pub most_slots : MAX_SLOTS ≡ 16
  pub lowest_of_two : lowest_free {T = ℕ} (Active 3 ∷ Free ∷ Free ∷ []) ≡ Some 1
  pub behind_a_suspended : lowest_free three ≡ Some 2
  pub all_taken : lowest_free {T = ℕ} (Active 3 ∷ Suspended 7 20 ∷ []) ≡ None
  pub handed_out : resumed three 1 7 ≡ Ok 20
  pub no_slot : resumed three 3 7 ≡ Err NoSlot
  pub active : resumed three 0 7 ≡ Err NotSuspended
  pub free : resumed three 2 7 ≡ Err NotSuspended
  pub other_client : resumed three 1 8 ≡ Err (OtherClient 7)
