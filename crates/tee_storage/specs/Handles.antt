-- Open objects as a map from the numbers of their handles.
use Rattle.std.specs.Prelude.{ℕ, ◌+◌, ◌<◌, List, [], ◌∷◌, All, Option, Some, None, is_none, option_and_then, find, slice_get}
use Rattle.base.specs.NumberMap.{NumberMap, IsRising, get}
use Rattle.tee_storage.specs.declared.handle.Handle.{Handle}

-- the least number from 0 to 7 that has no object
abbrev pub lowest_free : NumberMap Handle → Option ℕ
lowest_free handles = find (λ number. is_none (get handles number)) (0 ∷ 1 ∷ 2 ∷ 3 ∷ 4 ∷ 5 ∷ 6 ∷ 7 ∷ [])

-- a map from some of the numbers 0 to 7, and so of at most eight
pub record AreHandles (handles : NumberMap Handle) : Type 0 where
  pub rising : IsRising handles
  pub in_range : All (λ entry. entry.0 < 8) handles

-- the map of a list that has at each number an object or none
abbrev pub numbered_from : ℕ → List (Option Handle) → NumberMap Handle
numbered_from number [] = []
numbered_from number (None ∷ objects) = numbered_from (number + 1) objects
numbered_from number (Some handle ∷ objects) = (number, handle) ∷ numbered_from (number + 1) objects

-- what such a list has at a number
abbrev pub object_at : List (Option Handle) → ℕ → Option Handle
object_at objects number = option_and_then (λ object. object) (slice_get objects number)
