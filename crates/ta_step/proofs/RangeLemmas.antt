-- Which range an address names.
use Rattle.std.proofs.Common.{◌≡◌, ℕ, suc, ◌+◌, ◌-◌, ◌*◌, ◌/◌, ◌%◌, ◌<◌, [], ap, ◌∙◌, arith}
use Rattle.std.specs.Prelude.{slice_get, slice_index_or}
use Rattle.ta_step.specs.State.{State}
use Rattle.ta_step.specs.Addresses.{load, ranges}

-- a number above 0 is that of a buffer
pub from_one : (n : ℕ) → 0 < n → n ≡ suc (n - 1)
from_one n lt = omega arith

number_of : (number place : ℕ) → place < 0x10000000 → (0x10000000 * number + place) / 0x10000000 ≡ number
number_of number place lt = omega arith

place_of : (number place : ℕ) → place < 0x10000000 → (0x10000000 * number + place) % 0x10000000 ≡ place
place_of number place lt = let same = number_of number place lt in omega (arith, same)

-- the ranges begin at multiples of 0x10000000
pub ranges_begin : (s : State) (number place : ℕ) → place < 0x10000000 → load s (0x10000000 * number + place) ≡ slice_get (slice_index_or (ranges s) number []) place
ranges_begin s number place lt =
    ap (λ (k : ℕ). slice_get (slice_index_or (ranges s) k []) ((0x10000000 * number + place) % 0x10000000)) (number_of number place lt)
    ∙ ap (λ (k : ℕ). slice_get (slice_index_or (ranges s) number []) k) (place_of number place lt)
