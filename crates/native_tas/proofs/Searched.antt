-- A search of a list for its first element that passes, as a loop that goes along it.
use Rattle.std.proofs.Common.{◌≡◌, ◌∙◌, ℕ, ◌+◌, ◌<◌, ◌≤◌, Bool, true, false, cond, List, ◌∷◌, length, get_or, drop, sym, ap, Some, None, add-one, drop-cons}
use Rattle.std.proofs.Math.ListN.{drop_of_length-le}
use Rattle.std.specs.List.{find}

module _ {X : Type 0} (test : X → Bool) where
  next : (xs : List X) (i : ℕ) (x : X) → i < length xs → x ≡ get_or xs i x → find test xs ≡ find test (drop i xs)
      → find test xs ≡ cond (test x) (Some x) (find test (drop (i + 1) xs))
  next xs i x inside here so_far =
      let from_here : drop i xs ≡ get_or xs i x ∷ drop (i + 1) xs = rw add-one (drop-cons xs i x inside) in
      so_far ∙ ap (find test) from_here
      ∙ ap (λ y. cond (test y) (Some y) (find test (drop (i + 1) xs))) (sym here)

  -- one that doesn't pass is left behind
  pub found_later : (xs : List X) (i : ℕ) (x : X) → i < length xs → x ≡ get_or xs i x → test x ≡ false
      → find test xs ≡ find test (drop i xs) → find test xs ≡ find test (drop (i + 1) xs)
  found_later xs i x inside here fails so_far =
      next xs i x inside here so_far ∙ ap (λ b. cond b (Some x) (find test (drop (i + 1) xs))) fails

  -- one that passes, behind those that don't, is the first
  pub found_here : (xs : List X) (i : ℕ) (x : X) → i < length xs → x ≡ get_or xs i x → test x ≡ true
      → find test xs ≡ find test (drop i xs) → find test xs ≡ Some x
  found_here xs i x inside here passes so_far =
      next xs i x inside here so_far ∙ ap (λ b. cond b (Some x) (find test (drop (i + 1) xs))) passes

  -- at the end there is none
  pub found_nowhere : (xs : List X) (i : ℕ) → length xs ≤ i → find test xs ≡ find test (drop i xs) → find test xs ≡ None
  found_nowhere xs i at_end so_far = so_far ∙ ap (find test) (drop_of_length-le xs at_end)
