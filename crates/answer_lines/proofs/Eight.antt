-- Lists of eight, by their places.
use Rattle.std.proofs.Common.{◌≡◌, ℕ, List, [], ◌∷◌, length, get_or, map, sym, ap, refl, arith}
use Rattle.std.specs.List.{flat_map}

-- a list of eight is what stands at its places
eight : {A : Type 0} (none : A) (xs : List A) → length xs ≡ 8
    → xs ≡ get_or xs 0 none ∷ get_or xs 1 none ∷ get_or xs 2 none ∷ get_or xs 3 none ∷ get_or xs 4 none ∷ get_or xs 5 none ∷ get_or xs 6 none ∷ get_or xs 7 none ∷ []
eight none [] e = absurd (omega arith)
eight none (r0 ∷ []) e = absurd (omega arith)
eight none (r0 ∷ r1 ∷ []) e = absurd (omega arith)
eight none (r0 ∷ r1 ∷ r2 ∷ []) e = absurd (omega arith)
eight none (r0 ∷ r1 ∷ r2 ∷ r3 ∷ []) e = absurd (omega arith)
eight none (r0 ∷ r1 ∷ r2 ∷ r3 ∷ r4 ∷ []) e = absurd (omega arith)
eight none (r0 ∷ r1 ∷ r2 ∷ r3 ∷ r4 ∷ r5 ∷ []) e = absurd (omega arith)
eight none (r0 ∷ r1 ∷ r2 ∷ r3 ∷ r4 ∷ r5 ∷ r6 ∷ []) e = absurd (omega arith)
eight none (r0 ∷ r1 ∷ r2 ∷ r3 ∷ r4 ∷ r5 ∷ r6 ∷ r7 ∷ []) e = refl
eight none (r0 ∷ r1 ∷ r2 ∷ r3 ∷ r4 ∷ r5 ∷ r6 ∷ r7 ∷ r8 ∷ rest) e = absurd (omega arith)

-- what f gives at each of the eight places is what it gives for the list
pub map-eight : {A : Type 0} (f : A → ℕ) (none : A) (xs : List A) → length xs ≡ 8
    → f (get_or xs 0 none) ∷ f (get_or xs 1 none) ∷ f (get_or xs 2 none) ∷ f (get_or xs 3 none) ∷ f (get_or xs 4 none) ∷ f (get_or xs 5 none) ∷ f (get_or xs 6 none) ∷ f (get_or xs 7 none) ∷ [] ≡ map f xs
map-eight f none xs e = sym (ap (map f) (eight none xs e))

-- so it is where f gives lists, which are joined
pub joined-eight : (f : ℕ → List ℕ) (xs : List ℕ) → length xs ≡ 8
    → flat_map (λ l. l) (f (get_or xs 0 0) ∷ f (get_or xs 1 0) ∷ f (get_or xs 2 0) ∷ f (get_or xs 3 0) ∷ f (get_or xs 4 0) ∷ f (get_or xs 5 0) ∷ f (get_or xs 6 0) ∷ f (get_or xs 7 0) ∷ []) ≡ flat_map f xs
joined-eight f xs e = sym (ap (flat_map f) (eight 0 xs e))
