-- What holds of each entry of a map, and how many there are, after a change.
use Rattle.std.proofs.Common.{◌≡◌, ℕ, suc, ◌+◌, ◌<◌, ◌≤◌, Bool, true, false, not, cond, List, [], ◌∷◌, length, get_or, set, Some, None, refl, sym, ap, ◌∙◌, arith}
use Rattle.std.specs.List.{All, filter}
use Rattle.std.specs.Ordering.{nat_cmp, eq_by_cmp}
use Rattle.std.specs.declared.cmp.Ordering.TheVariants.{Less, Equal, Greater}
use Rattle.std.specs.FinMap.Entries as Entries
use Rattle.std.proofs.lemmas.Bool.Decides.{nat_tests}
use Rattle.std.proofs.lemmas.List.Elements.{All-cons, All-filter, All-head, All-nil, All-tail}
use Rattle.base.specs.NumberMap.{NumberMap, get, insert, remove}
use Rattle.base.specs.Places.{IsAt}

-- ---- at the place of a number

-- the entry at the place has the number
pub number_at : {X : Type 0} (m : NumberMap X) (k i : ℕ) (entry : ℕ × X) → IsAt X m k i → entry ≡ get_or m i entry → entry.0 ≡ k
number_at {X} m k i entry at is = ap (λ (e : ℕ × X). e.0) is ∙ at.numbered entry

-- another value there is the map with it
pub changed_at : {X : Type 0} (m : NumberMap X) (k i : ℕ) (entry : ℕ × X) (v : X) → IsAt X m k i → entry ≡ get_or m i entry →
    set m i (entry.0, v) ≡ insert m k v
changed_at m k i entry v at is = ap (λ n. set m i (n, v)) (number_at m k i entry at is) ∙ sym (at.with v)

-- ---- what holds of each entry

module _ {X : Type 0} (P : ℕ × X → Type 0) where
  pub All-insert : (m : NumberMap X) (k : ℕ) (v : X) → All P m → P (k, v) → All P (insert m k v)
  All-insert [] k v all new = All-cons P (k, v) [] new (All-nil P)
  All-insert (e ∷ es) k v all new =
      elim (nat_cmp k e.0) as (λ r. nat_cmp k e.0 ≡ r → All P (Entries.by_order r ((k, v) ∷ e ∷ es) ((e.0, v) ∷ es) (e ∷ insert es k v))) [
        | Less ↦ λ _. All-cons P (k, v) (e ∷ es) new all
        | Equal ↦ λ equal. All-cons P (e.0, v) es (rw (same k e.0 equal) new) (All-tail P e es all)
        | Greater ↦ λ _. All-cons P e (insert es k v) (All-head P e es all) (All-insert es k v (All-tail P e es all) new)
      ] refl
    where
      same : (a b : ℕ) → nat_cmp a b ≡ Equal → b ≡ a
      same a b equal = grind (arith, nat_tests)

  pub All-remove : (m : NumberMap X) (k : ℕ) → All P m → All P (remove m k)
  All-remove m k all = All-filter (λ (e : ℕ × X). not (eq_by_cmp nat_cmp k e.0)) P m all

  pub All-get : (m : NumberMap X) (k : ℕ) (v : X) → All P m → get m k ≡ Some v → P (k, v)
  All-get [] k v all found = absurd (cc)
  All-get (e ∷ es) k v all found =
      by_test (eq_by_cmp nat_cmp k e.0) refl (λ later. All-get es k v (All-tail P e es all) later) found
    where
      same : (a b : ℕ) → eq_by_cmp nat_cmp a b ≡ true → a ≡ b
      same a b equal = grind (arith, nat_tests)

      by_test : (b : Bool) → eq_by_cmp nat_cmp k e.0 ≡ b → (get es k ≡ Some v → P (k, v)) → cond b (Some e.1) (get es k) ≡ Some v → P (k, v)
      by_test true equal rest here = let value : e.1 ≡ v = cc in rw (same k e.0 equal, ← value) (All-head P e es all)
      by_test false other rest later = rest later

-- ---- how many there are

pub length-insert-le : {X : Type 0} (m : NumberMap X) (k : ℕ) (v : X) → length (insert m k v) ≤ length m + 1
length-insert-le [] k v = omega arith
length-insert-le {X} (e ∷ es) k v =
    let rest : length (insert es k v) ≤ length es + 1 = length-insert-le es k v in
    elim (nat_cmp k e.0) as (λ r. length (Entries.by_order r ((k, v) ∷ e ∷ es) ((e.0, v) ∷ es) (e ∷ insert es k v)) ≤ suc (length es) + 1) [
      | Less ↦ omega arith
      | Equal ↦ omega arith
      | Greater ↦ omega arith
    ]

length-filter-le : {X : Type 0} (p : X → Bool) (xs : List X) → length (filter p xs) ≤ length xs
length-filter-le p [] = omega arith
length-filter-le p (x ∷ xs) =
    let rest : length (filter p xs) ≤ length xs = length-filter-le p xs in
    elim (p x) as (λ b. length (cond b (x ∷ filter p xs) (filter p xs)) ≤ suc (length xs)) [ true ↦ omega arith | false ↦ omega arith ]

pub length-remove-le : {X : Type 0} (m : NumberMap X) (k : ℕ) → length (remove m k) ≤ length m
length-remove-le {X} m k = length-filter-le (λ (e : ℕ × X). not (eq_by_cmp nat_cmp k e.0)) m

-- ---- numbers that have nothing

-- a number above all has nothing
pub none_above : {X : Type 0} (m : NumberMap X) (k : ℕ) → All (λ e. e.0 < k) m → get m k ≡ None
none_above [] k below = refl
none_above {X} (e ∷ es) k below =
    let first : e.0 < k = All-head (λ (f : ℕ × X). f.0 < k) e es below in
    let miss : eq_by_cmp nat_cmp k e.0 ≡ false = grind (arith, nat_tests) in
    rw miss (none_above es k (All-tail (λ (f : ℕ × X). f.0 < k) e es below))
