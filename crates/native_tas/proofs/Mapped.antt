-- Searches in a list whose elements were mapped.
use Rattle.std.proofs.Common.{◌≡◌, ◌∙◌, ℕ, ◌+◌, ◌<◌, ◌≤◌, Bool, true, false, not, cond, List, [], ◌∷◌, nat_lt, length, map, get_or, refl, sym, ap, arith, Some, None}
use Rattle.std.specs.List.{find, position, position_or_len, slice_get}
use Rattle.std.specs.Option.{option_map}
use Rattle.std.proofs.lemmas.Bool.Decides.{nat_tests}
use Rattle.std.proofs.lemmas.List.{length-map}
use Rattle.std.proofs.lemmas.List.Folds.{find_at}
use Rattle.std.proofs.lemmas.List.Quantifiers.{position-Some}
use Rattle.std.proofs.lemmas.Option.{cond_some, slice_get-get_or, slice_get_past}

module _ {A B : Type 0} (f : A → B) where
  pub find_mapped : (test : B → Bool) (xs : List A) → find test (map f xs) ≡ option_map f (find (λ x. test (f x)) xs)
  find_mapped test [] = refl
  find_mapped test (x ∷ xs) =
      ap (λ o. cond (test (f x)) (Some (f x)) o) (find_mapped test xs) ∙ by_test (test (f x))
    where
      by_test : (b : Bool) → cond b (Some (f x)) (option_map f (find (λ x. test (f x)) xs)) ≡ option_map f (cond b (Some x) (find (λ x. test (f x)) xs))
      by_test true = refl
      by_test false = refl

  pub map_mapped : {C : Type 0} (g : B → C) (xs : List A) → map g (map f xs) ≡ map (λ x. g (f x)) xs
  map_mapped g [] = refl
  map_mapped g (x ∷ xs) = ap (λ ys. g (f x) ∷ ys) (map_mapped g xs)

  place_mapped : (test : B → Bool) (xs : List A) → position_or_len test (map f xs) ≡ position_or_len (λ x. test (f x)) xs
  place_mapped test [] = refl
  place_mapped test (x ∷ xs) = ap (λ n. cond (not (test (f x))) (1 + n) 0) (place_mapped test xs)

  position_mapped : (test : B → Bool) (xs : List A) → position test (map f xs) ≡ position (λ x. test (f x)) xs
  position_mapped test xs =
      ap (λ n. cond (nat_lt n (length (map f xs))) (Some n) None) (place_mapped test xs)
      ∙ ap (λ n. cond (nat_lt (position_or_len (λ x. test (f x)) xs) n) (Some (position_or_len (λ x. test (f x)) xs)) None) (length-map xs f)

  -- where none of the mapped elements passes, none is found
  pub find_nowhere : (test : B → Bool) (xs : List A) → position test (map f xs) ≡ None → find (λ x. test (f x)) xs ≡ None
  find_nowhere test xs none =
      let p : A → Bool = λ x. test (f x) in
      find_at p xs ∙ slice_get_past xs (position_or_len p xs) (past _ (length xs) (sym (position_mapped test xs) ∙ none))
    where
      past : (p len : ℕ) → cond (nat_lt p len) (Some p) None ≡ None → len ≤ p
      past p len none = grind (arith, nat_tests)

  -- the first that passes stands where the first mapped one does
  pub place_inside : (test : B → Bool) (xs : List A) (i : ℕ) (d : A) → position test (map f xs) ≡ Some i → i < length xs
  place_inside test xs i d found = (position-Some (λ x. test (f x)) xs i d (sym (position_mapped test xs) ∙ found)).0

  pub find_at_place : (test : B → Bool) (xs : List A) (i : ℕ) (d : A) → position test (map f xs) ≡ Some i → find (λ x. test (f x)) xs ≡ Some (get_or xs i d)
  find_at_place test xs i d found =
      let p : A → Bool = λ x. test (f x) in
      let here = sym (position_mapped test xs) ∙ found in
      find_at p xs ∙ ap (slice_get xs) (cond_some _ _ _ here).1 ∙ slice_get-get_or xs i d (position-Some p xs i d here).0
