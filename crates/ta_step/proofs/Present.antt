-- When bytes are there.
use Rattle.std.proofs.Common.{◌≡◌, ℕ, zero, suc, ◌+◌, ◌-◌, ◌<◌, List, [], ◌∷◌, length, arith}
use Rattle.std.specs.Prelude.{slice_get, is_some, nat_lt, nat_le}
use Rattle.std.proofs.lemmas.Bool.Decides.{nat_tests}

pub is_some-slice_get : {X : Type 0} (xs : List X) (i : ℕ) → is_some (slice_get xs i) ≡ nat_lt i (length xs)
is_some-slice_get [] i = grind (arith, nat_tests)
is_some-slice_get (x ∷ xs) zero = grind (arith, nat_tests)
is_some-slice_get (x ∷ xs) (suc i) = let rest = is_some-slice_get xs i in grind (arith, nat_tests, rest)

pub present : (xs : List ℕ) (i place count : ℕ) → 0 < count → i ≡ place + (count - 1) → is_some (slice_get xs i) ≡ nat_le (place + count) (length xs)
present xs i place count lt e = let there = is_some-slice_get xs i in grind (arith, nat_tests, there)
