-- What a map has at a number after a change at another number.
use Rattle.std.proofs.Common.{◌≡◌, ℕ, zero, suc, Bool, true, false, not, cond, List, [], ◌∷◌, Option, Some, None, refl}
use Rattle.std.proofs.Common.{ap, sym, ◌∙◌, arith}
use Rattle.std.specs.Prelude.{slice_get, slice_set}
use Rattle.std.specs.Ordering.{nat_cmp, eq_by_cmp}
use Rattle.std.specs.declared.cmp.Ordering.TheVariants.{Less, Equal, Greater}
use Rattle.std.specs.FinMap.Entries as Entries
use Rattle.std.proofs.lemmas.Bool.Decides.{nat_tests}
use Rattle.base.specs.NumberMap.{NumberMap, get, insert, remove, get-insert, get-remove}

pub get-insert-other : {X : Type 0} (m : NumberMap X) (k : ℕ) (v : X) (q : ℕ) → (k ≡ q → ⊥)
    → get (insert m k v) q ≡ get m q
get-insert-other m k v q apart =
    let differ : eq_by_cmp nat_cmp q k ≡ false = by_test (eq_by_cmp nat_cmp q k) refl in
    get-insert m k v q ∙ ap (λ b. cond b (Some v) (get m q)) differ
  where
    same : (a b : ℕ) → eq_by_cmp nat_cmp a b ≡ true → b ≡ a
    same a b equal = grind (arith, nat_tests)

    by_test : (b : Bool) → eq_by_cmp nat_cmp q k ≡ b → b ≡ false
    by_test true equal = absurd (apart (same q k equal))
    by_test false other = refl

pub get-remove-other : {X : Type 0} (m : NumberMap X) (k q : ℕ) → (k ≡ q → ⊥) → get (remove m k) q ≡ get m q
get-remove-other m k q apart =
    let differ : eq_by_cmp nat_cmp k q ≡ false = by_test (eq_by_cmp nat_cmp k q) refl in
    get-remove m k q ∙ ap (λ b. cond (not b) (get m q) None) differ
  where
    same : (a b : ℕ) → eq_by_cmp nat_cmp a b ≡ true → a ≡ b
    same a b equal = grind (arith, nat_tests)

    by_test : (b : Bool) → eq_by_cmp nat_cmp k q ≡ b → b ≡ false
    by_test true equal = absurd (apart (same k q equal))
    by_test false other = refl

-- what is there after a removal was there
pub get-removed : {X : Type 0} (m : NumberMap X) (k q : ℕ) (v : X) → get (remove m k) q ≡ Some v → get m q ≡ Some v
get-removed m k q v found = by_test (eq_by_cmp nat_cmp k q) (sym (get-remove m k q) ∙ found)
  where
    by_test : (b : Bool) → cond (not b) (get m q) None ≡ Some v → get m q ≡ Some v
    by_test true here = absurd cc
    by_test false here = here

-- what is there after an insertion is what was inserted, or was there
pub get-inserted : {X : Type 0} {P : Type 0} (m : NumberMap X) (k : ℕ) (v : X) (q : ℕ) (x : X)
    → get (insert m k v) q ≡ Some x
    → (q ≡ k → v ≡ x → P) → (get m q ≡ Some x → P) → P
get-inserted {X} {P} m k v q x found here there =
    by_test (eq_by_cmp nat_cmp q k) refl (sym (get-insert m k v q) ∙ found)
  where
    same : (a b : ℕ) → eq_by_cmp nat_cmp a b ≡ true → a ≡ b
    same a b equal = grind (arith, nat_tests)

    by_test : (b : Bool) → eq_by_cmp nat_cmp q k ≡ b → cond b (Some v) (get m q) ≡ Some x → P
    by_test true equal e = here (same q k equal) cc
    by_test false other e = there e

pub get-insert-same : {X : Type 0} (m : NumberMap X) (k : ℕ) (v : X) → get (insert m k v) k ≡ Some v
get-insert-same m k v =
    let same : eq_by_cmp nat_cmp k k ≡ true = tied k in
    get-insert m k v k ∙ ap (λ b. cond b (Some v) (get m k)) same
  where
    tied : (a : ℕ) → eq_by_cmp nat_cmp a a ≡ true
    tied a = grind (arith, nat_tests)

self_tied : (k : ℕ) → eq_by_cmp nat_cmp k k ≡ true
self_tied k = grind (arith, nat_tests)

pub get-remove-same : {X : Type 0} (m : NumberMap X) (k : ℕ) → get (remove m k) k ≡ None
get-remove-same m k = get-remove m k k ∙ ap (λ b. cond (not b) (get m k) None) (self_tied k)

-- ---- two changes at one number

self_compared : (k : ℕ) → nat_cmp k k ≡ Equal
self_compared k = grind (arith, nat_tests)

pub insert-again : {X : Type 0} (m : NumberMap X) (k : ℕ) (v w : X) → insert (insert m k v) k w ≡ insert m k w
insert-again {X} [] k v w =
    ap (λ r. Entries.by_order r ((k, w) ∷ (k, v) ∷ []) ((k, w) ∷ []) ((k, v) ∷ insert [] k w)) (self_compared k)
insert-again {X} (e ∷ es) k v w =
    elim (nat_cmp k e.0) as (λ r. nat_cmp k e.0 ≡ r →
    insert (Entries.by_order r ((k, v) ∷ e ∷ es) ((e.0, v) ∷ es) (e ∷ insert es k v)) k w
    ≡ Entries.by_order r ((k, w) ∷ e ∷ es) ((e.0, w) ∷ es) (e ∷ insert es k w)) [
      | Less ↦ λ _.
          ap (λ r. Entries.by_order r ((k, w) ∷ (k, v) ∷ e ∷ es) ((k, w) ∷ e ∷ es) ((k, v) ∷ insert (e ∷ es) k w))
          (self_compared k)
      | Equal ↦ λ equal.
          ap (λ r. Entries.by_order r ((k, w) ∷ (e.0, v) ∷ es) ((e.0, w) ∷ es) ((e.0, v) ∷ insert es k w)) equal
      | Greater ↦ λ greater.
          ap (λ r. Entries.by_order r ((k, w) ∷ e ∷ insert es k v) ((e.0, w) ∷ insert es k v)
          (e ∷ insert (insert es k v) k w)) greater
          ∙ ap (λ rest. e ∷ rest) (insert-again es k v w)
    ] refl

pub remove-inserted : {X : Type 0} (m : NumberMap X) (k : ℕ) (v : X) → remove (insert m k v) k ≡ remove m k
remove-inserted {X} [] k v = ap (λ b. cond (not b) ((k, v) ∷ []) []) (self_tied k)
remove-inserted {X} (e ∷ es) k v =
    elim (nat_cmp k e.0) as (λ r. nat_cmp k e.0 ≡ r →
    remove (Entries.by_order r ((k, v) ∷ e ∷ es) ((e.0, v) ∷ es) (e ∷ insert es k v)) k ≡ remove (e ∷ es) k) [
      | Less ↦ λ _. ap (λ b. cond (not b) ((k, v) ∷ remove (e ∷ es) k) (remove (e ∷ es) k)) (self_tied k)
      | Equal ↦ λ equal. ap (λ b. cond (not b) ((e.0, v) ∷ remove es k) (remove es k)) (tied_by k e.0 equal)
          ∙ sym (ap (λ b. cond (not b) (e ∷ remove es k) (remove es k)) (tied_by k e.0 equal))
      | Greater ↦ λ _. ap (λ rest. cond (not (eq_by_cmp nat_cmp k e.0)) (e ∷ rest) rest) (remove-inserted es k v)
    ] refl
  where
    tied_by : (a b : ℕ) → nat_cmp a b ≡ Equal → eq_by_cmp nat_cmp a b ≡ true
    tied_by a b equal = grind (arith, nat_tests)

-- an element of a list after one was set is that, or was there
pub set_either : {X : Type 0} {P : Type 0} (xs : List X) (i j : ℕ) (x : X) (y : Option X)
    → slice_get (slice_set xs i x) j ≡ y
    → (Some x ≡ y → P) → (slice_get xs j ≡ y → P) → P
set_either [] i j x y e here there = there e
set_either (first ∷ xs) zero zero x y e here there = here e
set_either (first ∷ xs) zero (suc j) x y e here there = there e
set_either (first ∷ xs) (suc i) zero x y e here there = there e
set_either (first ∷ xs) (suc i) (suc j) x y e here there = set_either xs i j x y e here there
