-- A list whose elements have names apart keeps to that when an element with a new name comes behind.
use Rattle.std.proofs.Common.{◌≡◌, ◌≢◌, ◌∙◌, ℕ, zero, suc, ◌<◌, Bool, true, false, cond, if◌then◌else◌, List, [], ◌∷◌, ◌++◌, length, map, get_or, refl, sym, subst, arith, Option, Some, None, is_some}
use Rattle.std.specs.List.{All, AllPairs, find}
use Rattle.std.specs.Option.{option_map}
use Rattle.std.proofs.lemmas.List.{get_or-map, length-map}
use Rattle.std.proofs.lemmas.List.Elements.{All-push}
use Rattle.std.proofs.lemmas.List.Quantifiers.{all_pairs_push}

-- where none is found, none passes
none_passes : {X : Type 0} (p : X → Bool) (xs : List X) (k : ℕ) (d : X) → is_some (find p xs) ≡ false → k < length xs → p (get_or xs k d) ≡ false
none_passes p [] k d none inside = absurd (omega arith)
none_passes p (x ∷ xs) k d none inside = by_test (p x) refl none (λ j rest. none_passes p xs j d rest) k inside
  where
    true_false : true ≡ false → ⊥
    true_false e = cc

    by_place : p x ≡ false → ((j : ℕ) → j < length xs → p (get_or xs j d) ≡ false) → (j : ℕ) → j < suc (length xs) → p (get_or (x ∷ xs) j d) ≡ false
    by_place first later zero inside = first
    by_place first later (suc j) inside = later j (omega arith)

    by_test : (b : Bool) → p x ≡ b → is_some (cond b (Some x) (find p xs)) ≡ false
        → ((j : ℕ) → is_some (find p xs) ≡ false → j < length xs → p (get_or xs j d) ≡ false) → (j : ℕ) → j < suc (length xs) → p (get_or (x ∷ xs) j d) ≡ false
    by_test true first none later j inside = absurd (true_false none)
    by_test false first none later j inside = by_place first (λ i. later i none) j inside

pub is_some_mapped : {A B : Type 0} (f : A → B) (o : Option A) → is_some (option_map f o) ≡ is_some o
is_some_mapped f None = refl
is_some_mapped f (Some x) = refl

-- names of whatever kind, which a test tells apart
module _ {N X : Type 0} (same : N → N → Bool) (tells : (a b : N) → a ≡ b → same a b ≡ true) (name : X → N) where
  apart_after_push : (xs : List X) (x : X) → AllPairs (λ a b. name a ≢ name b) xs → is_some (find (λ y. same (name y) (name x)) xs) ≡ false
      → AllPairs (λ a b. name a ≢ name b) (xs ++ x ∷ [])
  apart_after_push xs x apart none =
      all_pairs_push (λ a b. name a ≢ name b) xs x apart (λ k d inside equal.
      true_false (sym (tells (name (get_or xs k d)) (name x) equal) ∙ none_passes (λ y. same (name y) (name x)) xs k d none inside))
    where
      true_false : true ≡ false → ⊥
      true_false e = cc

  -- also where it may be that it doesn't come
  pub apart_after_try : (xs : List X) (x : X) (b : Bool) → AllPairs (λ a b. name a ≢ name b) xs → is_some (find (λ y. same (name y) (name x)) xs) ≡ false
      → AllPairs (λ a b. name a ≢ name b) (if b then xs ++ x ∷ [] else xs)
  apart_after_try xs x true apart none = apart_after_push xs x apart none
  apart_after_try xs x false apart none = apart

-- what is so of each and of the next is so of each when it comes, or doesn't
pub all_after_try : {X : Type 0} (P : X → Type 0) (xs : List X) (x : X) (b : Bool) → All P xs → P x → All P (if b then xs ++ x ∷ [] else xs)
all_after_try P xs x true all here = All-push P xs x all here
all_after_try P xs x false all here = all

-- names that are apart are apart in their list
pub names_apart : {X : Type 0} (name : X → List ℕ) (xs : List X) → AllPairs (λ a b. name a ≢ name b) xs → AllPairs (λ a b. a ≢ b) (map name xs)
names_apart name [] apart i j d before inside = absurd (omega arith)
names_apart name (x ∷ xs) apart i j d before inside =
    let within : j < length (x ∷ xs) = subst (λ n. j < n) (length-map (x ∷ xs) name) inside in
    rw (get_or-map name (x ∷ xs) i x d (omega arith), get_or-map name (x ∷ xs) j x d within) (apart i j x before within)
