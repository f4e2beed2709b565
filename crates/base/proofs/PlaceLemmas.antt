-- Where a number stands in a map, or would: what a binary search finds, and the map with it and without it.
use Rattle.std.proofs.Common.{◌≡◌, ℕ, zero, suc, ◌<◌, ◌≤◌, Bool, true, false, ◌&&◌, [], ◌∷◌, length, get_or, Result, Ok, Err, refl, sym, ap, arith}
use Rattle.std.specs.Ordering.{nat_cmp, is_lt, eq_by_cmp, ordering_index}
use Rattle.std.specs.declared.cmp.Ordering.TheVariants.{Less, Equal, Greater}
use Rattle.std.specs.List.Sorted.{IsSearchInRange, IsBinarySearchResult, IsNonDecreasingBy}
use Rattle.std.specs.FinMap.Entries as Entries
use Rattle.std.proofs.lemmas.Bool.Decides.{nat_tests}
use Rattle.std.proofs.lemmas.Cmp.{ranked}
use Rattle.base.specs.NumberMap.{NumberMap, remove, IsRising}
use Rattle.base.specs.Places.{IsAt, IsBefore, IsPlaceOf}

both : (a b : Bool) → (a && b) ≡ true → (a ≡ true) × (b ≡ true)
both true b e = (refl, e)
both false b e = absurd (cc)

is_less : (x y : ℕ) → is_lt (nat_cmp x y) ≡ true → x < y
is_less x y e = grind (arith, nat_tests)

same : (x y : ℕ) → y ≡ x → eq_by_cmp nat_cmp x y ≡ true
same x y e = grind (arith, nat_tests)

other : (x y : ℕ) → (y ≡ x → ⊥) → eq_by_cmp nat_cmp x y ≡ false
other x y h = grind (arith, nat_tests)

below_at : {X : Type 0} (x : ℕ) (es : NumberMap X) (j : ℕ) (d : ℕ × X) → Entries.below_all nat_cmp x es ≡ true →
    j < length es → x < (get_or es j d).0
below_at x [] j d h q = absurd (omega arith)
below_at x (e ∷ es) zero d h q = is_less x e.0 (both _ _ h).0
below_at x (e ∷ es) (suc j) d h q = below_at x es j d (both _ _ h).1 (omega arith)

rising_at : {X : Type 0} (m : NumberMap X) (i j : ℕ) (d : ℕ × X) → IsRising m → i < j → j < length m →
    (get_or m i d).0 < (get_or m j d).0
rising_at [] i j d h p q = absurd (omega arith)
rising_at (e ∷ es) i zero d h p q = absurd (omega arith)
rising_at (e ∷ es) zero (suc j) d h p q = below_at e.0 es j d (both _ _ h).0 (omega arith)
rising_at (e ∷ es) (suc i) (suc j) d h p q = rising_at es i j d (both _ _ h).1 (omega arith) (omega arith)

-- a number below all has nothing to remove
kept : {X : Type 0} (k x : ℕ) (es : NumberMap X) → k ≤ x → Entries.below_all nat_cmp x es ≡ true → remove es k ≡ es
kept k x [] le h = refl
kept k x (e ∷ es) le h =
    let tests = both _ _ h in
    let above : x < e.0 = is_less x e.0 tests.0 in
    rw (other k e.0 (λ p. omega arith)) (ap (λ rest. e ∷ rest) (kept k x es le tests.1))

found : {X : Type 0} (m : NumberMap X) (k i : ℕ) → IsRising m → i < length m → ((d : ℕ × X) → (get_or m i d).0 ≡ k) → IsAt X m k i
found [] k i h q is = absurd (omega arith)
found {X} (e ∷ es) k zero h q is =
    let here : e.0 ≡ k = is e in
    let order : nat_cmp k e.0 ≡ Equal = grind (arith, nat_tests) in
    let hit : eq_by_cmp nat_cmp k e.0 ≡ true = same k e.0 here in
    record {
      inside = q;
      numbered = is;
      some = rw hit refl;
      value = λ d. rw hit refl;
      with = λ value. rw order (ap (λ n. (n, value) ∷ es) here);
      without = rw hit (kept k e.0 es (omega arith) (both _ _ h).0);
    }
found {X} (e ∷ es) k (suc i) h q is =
    let inner : i < length es = omega arith in
    let low : e.0 < (get_or es i e).0 = below_at e.0 es i e (both _ _ h).0 inner in
    let after : e.0 < k = rw (is e) at low in
    let order : nat_cmp k e.0 ≡ Greater = grind (arith, nat_tests) in
    let miss : eq_by_cmp nat_cmp k e.0 ≡ false = other k e.0 (λ p. omega arith) in
    let rest : IsAt X es k i = found es k i (both _ _ h).1 inner is in
    record {
      inside = q;
      numbered = is;
      some = rw miss rest.some;
      value = λ d. rw miss (rest.value d);
      with = λ value. rw order (ap (λ others. e ∷ others) (rest.with value));
      without = rw miss (ap (λ others. e ∷ others) rest.without);
    }

before : {X : Type 0} (m : NumberMap X) (k i : ℕ) → i ≤ length m → ((j : ℕ) (d : ℕ × X) → j < i → (get_or m j d).0 < k) →
    ((j : ℕ) (d : ℕ × X) → i ≤ j → j < length m → k < (get_or m j d).0) → IsBefore X m k i
before [] k zero q low high = record { inside = q; none = refl; with = λ value. refl }
before [] k (suc i) q low high = absurd (omega arith)
before {X} (e ∷ es) k zero q low high =
    let above : k < e.0 = high 0 e (omega arith) (omega arith) in
    let rest : IsBefore X es k 0 = before es k 0 (omega arith) (λ j d lt. absurd (omega arith)) (λ j d le lt. high (suc j) d (omega arith) (omega arith)) in
    let miss : eq_by_cmp nat_cmp k e.0 ≡ false = other k e.0 (λ p. omega arith) in
    let order : nat_cmp k e.0 ≡ Less = grind (arith, nat_tests) in
    record { inside = q; none = rw miss rest.none; with = λ value. rw order refl }
before {X} (e ∷ es) k (suc i) q low high =
    let below : e.0 < k = low 0 e (omega arith) in
    let rest : IsBefore X es k i = before es k i (omega arith) (λ j d lt. low (suc j) d (omega arith)) (λ j d le lt. high (suc j) d (omega arith) (omega arith)) in
    let miss : eq_by_cmp nat_cmp k e.0 ≡ false = other k e.0 (λ p. omega arith) in
    let order : nat_cmp k e.0 ≡ Greater = grind (arith, nat_tests) in
    record { inside = q; none = rw miss rest.none; with = λ value. rw order (ap (λ others. e ∷ others) (rest.with value)) }

-- the comparisons rise along the map, as a binary search asks
comparisons_rise : {X : Type 0} (m : NumberMap X) (k : ℕ) → IsRising m → IsNonDecreasingBy (λ e. ordering_index (nat_cmp e.0 k)) m
comparisons_rise m k h i j d le lt =
    let up : (get_or m i d).0 ≤ (get_or m j d).0 =
    grind (arith, rising_at m i j d h, λ (p : i ≡ j). ap (λ n. (get_or m n d).0) p) in
    grind (arith, nat_tests)

pub searched : {X : Type 0} (m : NumberMap X) (k : ℕ) (r : Result ℕ ℕ) → IsRising m → IsSearchInRange r (length m) →
    IsBinarySearchResult (λ e. nat_cmp e.0 k) m r → IsPlaceOf m k r
searched m k (Ok at) h inside equal = found m k at h inside (λ d. ranked _ k _ (sym (equal d)))
searched m k (Err at) h inside parted =
    before m k at inside (λ j d lt. ranked _ k _ (sym ((parted (comparisons_rise m k h)).0 j d (omega arith) lt)))
    (λ j d le lt. ranked _ k _ (sym ((parted (comparisons_rise m k h)).1 j d le lt)))
