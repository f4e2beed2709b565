-- Where a number stands in a map, or would: what a search of the list tells of the map.
use Rattle.std.specs.Prelude.{◌≡◌, ℕ, suc, ◌<◌, ◌≤◌, ◌∷◌, ◌++◌, length, take, drop, Some, None, IsSome, Result, Ok, Err, slice_index_or, slice_set}
use Rattle.base.specs.NumberMap.{NumberMap, get, insert, remove}

-- the index at which the number stands, and what the map is then with another value there, or without it
pub record IsAt (X : Type 0) (m : NumberMap X) (number index : ℕ) : Type 0 where
  pub inside : index < length m
  pub numbered : (d : ℕ × X) → (slice_index_or m index d).0 ≡ number
  pub some : IsSome (get m number)
  pub value : (d : ℕ × X) → get m number ≡ Some (slice_index_or m index d).1
  pub with : (value : X) → insert m number value ≡ slice_set m index (number, value)
  pub without : remove m number ≡ take index m ++ drop (suc index) m

-- the index at which it would stand, and what the map is then with it
pub record IsBefore (X : Type 0) (m : NumberMap X) (number index : ℕ) : Type 0 where
  pub inside : index ≤ length m
  pub none : get m number ≡ None
  pub with : (value : X) → insert m number value ≡ take index m ++ (number, value) ∷ drop index m

abbrev pub IsPlaceOf : {X : Type 0} → NumberMap X → ℕ → Result ℕ ℕ → Type 0
IsPlaceOf {X} m number (Ok index) = IsAt X m number index
IsPlaceOf {X} m number (Err index) = IsBefore X m number index
