-- What is written piece by piece, together.
use Rattle.std.proofs.Common.{◌≡◌, ℕ, ◌+◌, ◌<◌, ◌≤◌, List, ◌++◌, length, get_or, take, append_assoc, ap, sym, ◌∙◌}
use Rattle.std.specs.List.{flat_map}
use Rattle.std.proofs.lemmas.List.{flat_map_more, take_all, take_more}

-- one more element, behind those before it
pub put_more : {X : Type 0} (f : X → List ℕ) (xs : List X) (i : ℕ) (x d : X) (front out next : List ℕ)
    → i < length xs → x ≡ get_or xs i d → out ≡ front ++ flat_map f (take i xs) → next ≡ out ++ f x → next ≡ front ++ flat_map f (take (i + 1) xs)
put_more {X} f xs i x d front out next below is_there so_far written =
    written
    ∙ ap (λ (o : List ℕ). o ++ f x) so_far
    ∙ ap (λ (y : X). (front ++ flat_map f (take i xs)) ++ f y) is_there
    ∙ flat_map_more f front (take i xs) (get_or xs i d)
    ∙ ap (λ (t : List X). front ++ flat_map f t) (sym (take_more xs i d below))

-- a head, and then each element
pub put_behind : {X : Type 0} (f : X → List ℕ) (xs : List X) (i : ℕ) (front begun headed out head middle : List ℕ)
    → length xs ≤ i → begun ≡ front ++ head → headed ≡ begun ++ middle → out ≡ headed ++ flat_map f (take i xs) → out ≡ front ++ (head ++ (middle ++ flat_map f xs))
put_behind {X} f xs i front begun headed out head middle all first second so_far =
    so_far
    ∙ ap (λ (t : List X). headed ++ flat_map f t) (take_all i xs all)
    ∙ ap (λ (o : List ℕ). o ++ flat_map f xs) (second ∙ ap (λ (o : List ℕ). o ++ middle) first)
    ∙ append_assoc (front ++ head) middle (flat_map f xs)
    ∙ append_assoc front head (middle ++ flat_map f xs)
