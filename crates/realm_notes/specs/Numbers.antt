-- The numbers of a realm's calls, as the code keeps them.
use Rattle.std.specs.Prelude.{◌≡◌, ℕ, List, Option, slice_get}
use Rattle.std.specs.Option.{option_and_then}
use Rattle.base.specs.NumberMap.{get, remove}
use Rattle.own_model.specs.Own as own
use Rattle.realm_notes.specs.declared.numbering.Numbering.{Numbering}

-- the number at a slot, if there is one
abbrev pub number_at : List (Option ℕ) → ℕ → Option ℕ
number_at numbers slot = option_and_then (λ number. number) (slice_get numbers slot)

-- the numbers are the definitions', slot by slot
pub record AreNumbers (code : Numbering) (numbers : own.Numbering) : Type 0 where
  pub entered : code.entered ≡ numbers.entered
  pub in_slots : (slot : ℕ) → number_at code.in_slots slot ≡ get numbers.in_slots slot
  pub wakes : (slot : ℕ) → number_at code.wakes slot ≡ get numbers.wakes slot

-- the slot holds no call of the realm any more
abbrev pub without_slot : own.Numbering → ℕ → own.Numbering
without_slot numbers slot =
    record numbers { in_slots = remove numbers.in_slots slot; wakes = remove numbers.wakes slot }
