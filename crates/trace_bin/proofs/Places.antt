-- What stands at places, read one after the other.
use Rattle.std.proofs.Common.{◌≡◌, ℕ, suc, ◌+◌, ◌<◌, Bool, true, ◌&&◌, List, ◌++◌, ◌∷◌, [], length, get_or, map, take, drop, add-one, append_assoc, ap, sym, ◌∙◌}
use Rattle.std.specs.Prelude.{slice_set}
use Rattle.std.specs.List.{list_all}
use Rattle.std.proofs.Math.Seq.{drop-cons}
use Rattle.std.proofs.lemmas.List.{take_more_set}

pub forms_more : (form : ℕ → Bool) (places : List ℕ) (i d : ℕ) (all : Bool)
    → i < length places → form (get_or places i d) ≡ true → list_all form (drop i places) ≡ all → list_all form (drop (i + 1) places) ≡ all
forms_more form places i d all below has so_far =
    rw (add-one) (ap (λ (b : Bool). b && list_all form (drop (suc i) places)) (sym has) ∙ ap (list_all form) (sym (drop-cons places i d below)) ∙ so_far)

pub values_more : {X : Type 0} (value : ℕ → X) (places : List ℕ) (xs : List X) (i d : ℕ) (x : X) (all : List X)
    → i < length places → i < length xs → x ≡ value (get_or places i d) → take i xs ++ map value (drop i places) ≡ all
    → take (i + 1) (slice_set xs i x) ++ map value (drop (i + 1) places) ≡ all
values_more {X} value places xs i d x all below fits is so_far =
    let rest = map value (drop (suc i) places) in
    ap (λ (front : List X). front ++ map value (drop (i + 1) places)) (take_more_set xs i x fits)
    ∙ append_assoc (take i xs) (x ∷ []) (map value (drop (i + 1) places))
    ∙ ap (λ (n : ℕ). take i xs ++ (x ∷ map value (drop n places))) (add-one i)
    ∙ ap (λ (y : X). take i xs ++ (y ∷ rest)) is
    ∙ ap (λ (left : List ℕ). take i xs ++ map value left) (sym (drop-cons places i d below))
    ∙ so_far
