-- A list of pairs, by its places.
use Rattle.std.proofs.Common.{◌≡◌, ◌<◌, ℕ, List, length, get_or, Result, Ok, Err, arith, ap, ◌∙◌}
use Rattle.std.specs.Prelude.{IfOk, slice_index_or}
use Rattle.std.specs.List.{zip}
use Rattle.std.proofs.lemmas.Slice.Zip.{get_or-zip}

module _ {A B : Type 0} where
  -- where the pairs were made, each place has that of both
  pub pairs_at : {V E : Type 0} (items : V → List (A × B)) (xs : List A) (ys : List B) (made : Result V E)
      → length xs ≡ length ys → IfOk made (λ v. items v ≡ zip xs ys)
      → IfOk made (λ v. (i : ℕ) (x : A) (y : B) → i < length xs
      → slice_index_or (items v) i (x, y) ≡ (slice_index_or xs i x, slice_index_or ys i y))
  pairs_at items xs ys (Ok v) same is = λ i x y below.
      ap (λ (zs : List (A × B)). get_or zs i (x, y)) is ∙ get_or-zip xs ys i (x, y) below (omega (arith, same, below))
  pairs_at items xs ys (Err e) same is = tt
