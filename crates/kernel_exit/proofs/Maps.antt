-- Maps after a change, and counts.
use Rattle.std.proofs.Common.{◌≡◌, ℕ, ◌+◌, Bool, true, false, not, cond, List, [], ◌∷◌, Some, refl, sym, ap, ◌∙◌, ◌||◌, arith}
use Rattle.std.specs.Prelude.{count_by, nat_lt}
use Rattle.std.specs.List.{list_any}
use Rattle.std.specs.Ordering.{nat_cmp, eq_by_cmp, is_eq}
use Rattle.std.specs.declared.cmp.Ordering.{Ordering}
use Rattle.std.specs.declared.cmp.Ordering.TheVariants.{Less, Equal, Greater}
use Rattle.std.specs.FinMap.Entries as Entries
use Rattle.std.proofs.lemmas.Bool.Decides.{nat_tests}
use Rattle.std.proofs.lemmas.List.Sums.{sum_by-cons}
use Rattle.base.specs.NumberMap.{NumberMap, get, insert, remove, get-insert}

-- what was put in is taken away
pub remove_insert : {X : Type 0} (m : NumberMap X) (k : ℕ) (v : X) → remove (insert m k v) k ≡ remove m k
remove_insert {X} [] k v = by (eq_by_cmp nat_cmp k k) (itself k)
  where
    itself : (n : ℕ) → eq_by_cmp nat_cmp n n ≡ true
    itself n = grind (arith, nat_tests)

    by : (b : Bool) → b ≡ true → cond {A = NumberMap X} (not b) ((k, v) ∷ []) [] ≡ []
    by true is = refl
    by false is = absurd (cc)
remove_insert {X} (e ∷ es) k v = by (nat_cmp k e.0) refl (remove_insert es k v)
  where
    itself : (n : ℕ) → eq_by_cmp nat_cmp n n ≡ true
    itself n = grind (arith, nat_tests)

    by : (r : Ordering) → nat_cmp k e.0 ≡ r → remove (insert es k v) k ≡ remove es k →
        remove (Entries.by_order r ((k, v) ∷ e ∷ es) ((e.0, v) ∷ es) (e ∷ insert es k v)) k ≡ remove (e ∷ es) k
    by Less r rest = ap (λ b. cond {A = NumberMap X} (not b) ((k, v) ∷ remove (e ∷ es) k) (remove (e ∷ es) k)) (itself k)
    by Equal r rest =
        let here : eq_by_cmp nat_cmp k e.0 ≡ true = ap is_eq r in
        ap (λ b. cond {A = NumberMap X} (not b) ((e.0, v) ∷ remove es k) (remove es k)) here
        ∙ sym (ap (λ b. cond {A = NumberMap X} (not b) (e ∷ remove es k) (remove es k)) here)
    by Greater r rest = ap (λ l. cond {A = NumberMap X} (not (eq_by_cmp nat_cmp k e.0)) (e ∷ l) l) rest

-- it is found there
pub get_inserted : {X : Type 0} (m : NumberMap X) (k : ℕ) (v : X) → get (insert m k v) k ≡ Some v
get_inserted {X} m k v = get-insert m k v k ∙ ap (λ b. cond b (Some v) (get m k)) (itself k)
  where
    itself : (n : ℕ) → eq_by_cmp nat_cmp n n ≡ true
    itself n = grind (arith, nat_tests)

-- ---- counts

-- one is there where there are some
pub any_counted : {X : Type 0} (p : X → Bool) (xs : List X) → list_any p xs ≡ nat_lt 0 (count_by p xs)
any_counted p [] = refl
any_counted {X} p (x ∷ xs) = by (p x) (any_counted p xs) _ (sum_by-cons (λ (y : X). cond (p y) 1 0) x xs)
  where
    by : (b : Bool) → list_any p xs ≡ nat_lt 0 (count_by p xs) → (n : ℕ) → n ≡ cond b 1 0 + count_by p xs →
        (b || list_any p xs) ≡ nat_lt 0 n
    by true rest n sum = grind (arith, nat_tests)
    by false rest n sum = let same : n ≡ count_by p xs = omega arith in rw same rest
