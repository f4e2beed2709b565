-- A finite map from numbers as contracts see it: a list of pairs in rising order of their numbers. Its
-- words compute, and their laws are those of std's finite maps, here at the order of numbers.
use Rattle.std.specs.Prelude.{◌≡◌, ℕ, ◌≤◌, length, Bool, true, false, cond, not, T, IsTrue, List, Option, Some, None, refl}
use Rattle.std.specs.Ordering.{nat_cmp, eq_by_cmp, is_eq}
use Rattle.std.specs.Cmp.{nat_cmp_total, alike_right}
use Rattle.std.specs.FinMap.{nat_cmp-IsAntisymmetric}
use Rattle.std.specs.FinMap.Entries as Entries
use Rattle.std.proofs.Common.{ap, subst, sym}

abbrev pub NumberMap : Type 0 → Type 0
NumberMap X = List (ℕ × X)

-- what the map has at a number
abbrev pub get : {X : Type 0} → NumberMap X → ℕ → Option X
get m k = Entries.find nat_cmp k m

-- the map with the value at the number, and all else as it was
abbrev pub insert : {X : Type 0} → NumberMap X → ℕ → X → NumberMap X
insert m k v = Entries.put nat_cmp k v m

-- the map with nothing at the number, and all else as it was
abbrev pub remove : {X : Type 0} → NumberMap X → ℕ → NumberMap X
remove m k = Entries.where_key nat_cmp (λ q. not (eq_by_cmp nat_cmp k q)) m

-- the numbers strictly rise, so that each stands once
abbrev pub IsRising : {X : Type 0} → NumberMap X → Type 0
IsRising m = IsTrue (Entries.is_sorted nat_cmp m)

-- a map with at most so many numbers
pub record IsTable {X : Type 0} (room : ℕ) (m : NumberMap X) : Type 0 where
  pub rising : IsRising m
  pub few : length m ≤ room

holds : (b : Bool) → T b → b ≡ true
holds true h = refl
holds false h = absurd h

passes : (b : Bool) → b ≡ true → T b
passes b e = subst T (sym e) tt

pub get-insert : {X : Type 0} (m : NumberMap X) (k : ℕ) (v : X) (q : ℕ) → get (insert m k v) q ≡ cond (eq_by_cmp nat_cmp q k) (Some v) (get m q)
get-insert m k v q = Entries.find-put nat_cmp nat_cmp_total q k v m

pub get-remove : {X : Type 0} (m : NumberMap X) (k q : ℕ) → get (remove m k) q ≡ cond (not (eq_by_cmp nat_cmp k q)) (get m q) None
get-remove m k q =
    Entries.find-where_key nat_cmp (λ x. not (eq_by_cmp nat_cmp k x)) q (λ x t. ap (λ r. not (is_eq r)) (sym (alike_right nat_cmp_total q x k t))) m

pub IsRising-insert : {X : Type 0} (m : NumberMap X) (k : ℕ) (v : X) → IsRising m → IsRising (insert m k v)
IsRising-insert m k v rising = holds _ (Entries.is_sorted-put nat_cmp nat_cmp_total k v m (passes _ rising))

pub IsRising-remove : {X : Type 0} (m : NumberMap X) (k : ℕ) → IsRising m → IsRising (remove m k)
IsRising-remove m k rising =
    holds _ (Entries.is_sorted-where_key nat_cmp (λ q. not (eq_by_cmp nat_cmp k q)) m (passes _ rising))

-- two maps that answer alike at each number are equal
pub same_maps : {X : Type 0} (m n : NumberMap X) → IsRising m → IsRising n → ((q : ℕ) → get m q ≡ get n q) → m ≡ n
same_maps m n rising_m rising_n alike =
    Entries.same_entries nat_cmp nat_cmp_total nat_cmp-IsAntisymmetric m n (passes _ rising_m) (passes _ rising_n) alike

-- the laws by which a caller reasons about maps of one type of values
pub record Laws (X : Type 0) : Type 0 where
  pub at_insert : (m : NumberMap X) (k : ℕ) (v : X) (q : ℕ) → get (insert m k v) q ≡ cond (eq_by_cmp nat_cmp q k) (Some v) (get m q)
  pub at_remove : (m : NumberMap X) (k q : ℕ) → get (remove m k) q ≡ cond (not (eq_by_cmp nat_cmp k q)) (get m q) None
  pub rising_insert : (m : NumberMap X) (k : ℕ) (v : X) → IsRising m → IsRising (insert m k v)
  pub rising_remove : (m : NumberMap X) (k : ℕ) → IsRising m → IsRising (remove m k)
  pub alike : (m n : NumberMap X) → IsRising m → IsRising n → ((q : ℕ) → get m q ≡ get n q) → m ≡ n
