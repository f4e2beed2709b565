-- What several calls of a port come to together.
use Rattle.std.specs.Prelude.{◌≡◌, ℕ, ◌≤◌, List, [], ◌++◌, Option, Some, None, refl}
use Rattle.std.proofs.Common.{arith, sym, ap, ◌∙◌, append_assoc, append-nil}
use Rattle.ports.specs.Port.{MOST_FAULTS, Rose, Moves, Appends}

-- a source that was left alone moved nothing
pub Moves-nil : (left : Option (List ℕ)) → Moves left left []
Moves-nil None = tt
Moves-nil (Some rest) = refl

-- two calls move what the first moved, and then what the second did
pub Moves-trans : (a b c : Option (List ℕ)) (xs ys : List ℕ) → Moves a b xs → Moves b c ys → Moves a c (xs ++ ys)
Moves-trans None None None xs ys p q = tt
Moves-trans None None (Some z) xs ys p q = absurd q
Moves-trans None (Some y) c xs ys p q = absurd p
Moves-trans (Some x) None c xs ys p q = absurd p
Moves-trans (Some x) (Some y) None xs ys p q = absurd q
Moves-trans (Some x) (Some y) (Some z) xs ys p q = p ∙ ap (λ l. xs ++ l) q ∙ sym (append_assoc xs ys z)

-- a source that told what it had left tells it still
pub Moves-some : (old xs : List ℕ) (b : Option (List ℕ)) → Moves (Some old) b xs
    → (new : List ℕ) × (b ≡ Some new) × (old ≡ xs ++ new)
Moves-some old xs None p = absurd p
Moves-some old xs (Some new) p = (new, refl, p)

-- a sink that was left alone holds what it held
pub Appends-nil : (held : Option (List ℕ)) → Appends held held []
Appends-nil None = tt
Appends-nil (Some bytes) = sym (append-nil bytes)

-- two calls append what the first appended, and then what the second did
pub Appends-trans : (a b c : Option (List ℕ)) (xs ys : List ℕ) → Appends a b xs → Appends b c ys → Appends a c (xs ++ ys)
Appends-trans None None None xs ys p q = tt
Appends-trans None None (Some z) xs ys p q = absurd q
Appends-trans None (Some y) c xs ys p q = absurd p
Appends-trans (Some x) None c xs ys p q = absurd p
Appends-trans (Some x) (Some y) None xs ys p q = absurd q
Appends-trans (Some x) (Some y) (Some z) xs ys p q = q ∙ ap (λ l. l ++ ys) p ∙ append_assoc x xs ys

-- a sink that told what it held tells it still
pub Appends-some : (old xs : List ℕ) (b : Option (List ℕ)) → Appends (Some old) b xs → b ≡ Some (old ++ xs)
Appends-some old xs None p = absurd p
Appends-some old xs (Some new) p = ap Some p

-- a count that rose in the last of several calls rose in all of them together
pub Rose-earlier : (a b c : ℕ) → a ≤ b → Rose b c → Rose a c
Rose-earlier a b c h rose = grind arith

-- a count that rose has risen when more calls have followed
pub Rose-later : (a b c : ℕ) → Rose a b → b ≤ c → c ≤ MOST_FAULTS → Rose a c
Rose-later a b c rose h most = grind arith
