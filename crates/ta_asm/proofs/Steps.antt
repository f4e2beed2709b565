-- A list that is gone through from its front.
use Rattle.std.proofs.Common.{◌≡◌, ℕ, ◌+◌, ◌<◌, ◌≤◌, List, [], ◌∷◌, ◌++◌, length, get_or, take, drop, slice_get, Some, sym, ap, ◌∙◌, arith, length-drop}
use Rattle.std.proofs.lemmas.List.{take_more, drop_more}
use Rattle.std.proofs.lemmas.Option.{slice_get-get_or}

-- the next element
pub record Step {X : Type 0} (all : List X) (i : ℕ) (x : X) (after : List X) : Type 0 where
  pub within : i < length all
  pub here : slice_get all i ≡ Some x
  pub front : take (i + 1) all ≡ take i all ++ x ∷ []
  pub behind : drop (i + 1) all ≡ after

same_head : {X : Type 0} (x y : X) (xs ys : List X) → x ∷ xs ≡ y ∷ ys → x ≡ y
same_head x y xs ys e = cc

same_tail : {X : Type 0} (x y : X) (xs ys : List X) → x ∷ xs ≡ y ∷ ys → xs ≡ ys
same_tail x y xs ys e = cc

pub step : {X : Type 0} (all rest : List X) (i : ℕ) (x : X) (after : List X) → drop i all ≡ rest → rest ≡ x ∷ after → Step all i x after
step all rest i x after so_far next =
    let whole : drop i all ≡ x ∷ after = so_far ∙ next in
    let within : i < length all = omega (arith, ap length whole, length-drop i all) in
    let parts : x ∷ after ≡ get_or all i x ∷ drop (i + 1) all = sym whole ∙ drop_more all i x within in
    let is = same_head x (get_or all i x) after (drop (i + 1) all) parts in
    record {
      within = within;
      here = slice_get-get_or all i x within ∙ ap (λ y. Some y) (sym is);
      front = take_more all i x within ∙ ap (λ y. take i all ++ y ∷ []) (sym is);
      behind = sym (same_tail x (get_or all i x) after (drop (i + 1) all) parts);
    }

-- the end
pub at_end : {X : Type 0} (all rest : List X) (i : ℕ) → drop i all ≡ rest → rest ≡ [] → length all ≤ i
at_end all rest i so_far e = omega (arith, ap length (so_far ∙ e), length-drop i all)
