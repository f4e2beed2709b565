-- Sums over maps whose numbers rise, after a change.
use Rattle.std.proofs.Common.{◌≡◌, ℕ, ◌+◌, ◌≤◌, Bool, true, false, not, cond, [], ◌∷◌, Some, None, sum_by, refl, sym, ap, ap₂, ◌∙◌, arith}
use Rattle.std.specs.Ordering.{nat_cmp, eq_by_cmp, is_lt}
use Rattle.std.specs.declared.cmp.Ordering.{Ordering}
use Rattle.std.specs.declared.cmp.Ordering.TheVariants.{Less, Equal, Greater}
use Rattle.std.specs.FinMap.Entries as Entries
use Rattle.std.proofs.lemmas.Bool.{and_parts}
use Rattle.std.proofs.lemmas.Bool.Decides.{nat_tests}
use Rattle.std.proofs.lemmas.List.Sums.{sum_by-cons}
use Rattle.base.specs.NumberMap.{NumberMap, get, insert, remove, IsRising}

-- a number that isn't above another that is below all has nothing
none_under : {X : Type 0} (b k : ℕ) (es : NumberMap X) → k ≤ b → Entries.below_all nat_cmp b es ≡ true → get es k ≡ None
none_under b k [] le below = refl
none_under b k (e ∷ es) le below =
    let parts = and_parts _ _ below in
    let apart : eq_by_cmp nat_cmp k e.0 ≡ false = other k b e.0 le parts.0 in
    rw apart (none_under b k es le parts.1)
  where
    other : (k b n : ℕ) → k ≤ b → is_lt (nat_cmp b n) ≡ true → eq_by_cmp nat_cmp k n ≡ false
    other k b n le less = grind (arith, nat_tests)

-- what isn't there can't be taken away
remove_none : {X : Type 0} (k : ℕ) (es : NumberMap X) → get es k ≡ None → remove es k ≡ es
remove_none k [] none = refl
remove_none {X} k (e ∷ es) none = by (eq_by_cmp nat_cmp k e.0) none (remove_none k es)
  where
    by : (b : Bool) → cond b (Some e.1) (get es k) ≡ None → (get es k ≡ None → remove es k ≡ es)
        → cond (not b) (e ∷ remove es k) (remove es k) ≡ e ∷ es
    by true none rest = absurd (cc)
    by false none rest = ap (λ l. e ∷ l) (rest none)

module _ {X : Type 0} (f : ℕ × X → ℕ) where
  same : (a b : ℕ) → nat_cmp a b ≡ Equal → b ≡ a
  same a b equal = grind (arith, nat_tests)

  here : (a b : ℕ) → nat_cmp a b ≡ Equal → eq_by_cmp nat_cmp a b ≡ true
  here a b equal = grind (arith, nat_tests)

  apart : (a b : ℕ) → nat_cmp a b ≡ Less → eq_by_cmp nat_cmp a b ≡ false
  apart a b less = grind (arith, nat_tests)

  behind : (a b : ℕ) → nat_cmp a b ≡ Greater → eq_by_cmp nat_cmp a b ≡ false
  behind a b greater = grind (arith, nat_tests)

  under : (a b : ℕ) → nat_cmp a b ≡ Less → a ≤ b
  under a b less = grind (arith, nat_tests)

  -- with another value where there was one
  pub sum_insert : (m : NumberMap X) (k : ℕ) (old v : X) → IsRising m → get m k ≡ Some old
      → sum_by f (insert m k v) + f (k, old) ≡ sum_by f m + f (k, v)
  sum_insert [] k old v rising found = absurd (cc)
  sum_insert (e ∷ es) k old v rising found =
      let parts = and_parts _ _ rising in
      by (nat_cmp k e.0) refl parts.0 (sum_insert es k old v parts.1)
    where
      by : (r : Ordering) → nat_cmp k e.0 ≡ r → Entries.below_all nat_cmp e.0 es ≡ true
          → (get es k ≡ Some old → sum_by f (insert es k v) + f (k, old) ≡ sum_by f es + f (k, v))
          → sum_by f (Entries.by_order r ((k, v) ∷ e ∷ es) ((e.0, v) ∷ es) (e ∷ insert es k v)) + f (k, old) ≡ sum_by f (e ∷ es) + f (k, v)
      by Less r below rest =
          let nothing : get es k ≡ None = none_under e.0 k es (under k e.0 r) below in
          let is : Some old ≡ None = sym found ∙ ap (λ b. cond b (Some e.1) (get es k)) (apart k e.0 r) ∙ nothing in
          absurd (cc)
      by Equal r below rest =
          let is : Some e.1 ≡ Some old = sym (ap (λ b. cond b (Some e.1) (get es k)) (here k e.0 r)) ∙ found in
          let value : e.1 ≡ old = cc in
          let number : e.0 ≡ k = same k e.0 r in
          let was : f e ≡ f (k, old) = ap₂ (λ n x. f (n, x)) number value in
          let now : f (e.0, v) ≡ f (k, v) = ap (λ n. f (n, v)) number in
          omega (arith, sum_by-cons f (e.0, v) es, sum_by-cons f e es, was, now)
      by Greater r below rest =
          let later : get es k ≡ Some old = sym (ap (λ b. cond b (Some e.1) (get es k)) (behind k e.0 r)) ∙ found in
          omega (arith, sum_by-cons f e (insert es k v), sum_by-cons f e es, rest later)

  -- with a value where there was none
  pub sum_with : (m : NumberMap X) (k : ℕ) (v : X) → get m k ≡ None → sum_by f (insert m k v) ≡ sum_by f m + f (k, v)
  sum_with [] k v none = omega (arith, sum_by-cons f (k, v) [])
  sum_with (e ∷ es) k v none = by (nat_cmp k e.0) refl (sum_with es k v)
    where
      by : (r : Ordering) → nat_cmp k e.0 ≡ r → (get es k ≡ None → sum_by f (insert es k v) ≡ sum_by f es + f (k, v))
          → sum_by f (Entries.by_order r ((k, v) ∷ e ∷ es) ((e.0, v) ∷ es) (e ∷ insert es k v)) ≡ sum_by f (e ∷ es) + f (k, v)
      by Less r rest = omega (arith, sum_by-cons f (k, v) (e ∷ es))
      by Equal r rest =
          let is : Some e.1 ≡ None = sym (ap (λ b. cond b (Some e.1) (get es k)) (here k e.0 r)) ∙ none in
          absurd (cc)
      by Greater r rest =
          let later : get es k ≡ None = sym (ap (λ b. cond b (Some e.1) (get es k)) (behind k e.0 r)) ∙ none in
          omega (arith, sum_by-cons f e (insert es k v), sum_by-cons f e es, rest later)

  -- without a value that was there
  pub sum_remove : (m : NumberMap X) (k : ℕ) (old : X) → IsRising m → get m k ≡ Some old
      → sum_by f (remove m k) + f (k, old) ≡ sum_by f m
  sum_remove [] k old rising found = absurd (cc)
  sum_remove (e ∷ es) k old rising found =
      let parts = and_parts _ _ rising in
      by (eq_by_cmp nat_cmp k e.0) refl parts.0 found (sum_remove es k old parts.1)
    where
      tied : (a b : ℕ) → eq_by_cmp nat_cmp a b ≡ true → b ≡ a
      tied a b e = grind (arith, nat_tests)

      by : (b : Bool) → eq_by_cmp nat_cmp k e.0 ≡ b → Entries.below_all nat_cmp e.0 es ≡ true → cond b (Some e.1) (get es k) ≡ Some old
          → (get es k ≡ Some old → sum_by f (remove es k) + f (k, old) ≡ sum_by f es)
          → sum_by f (cond (not b) (e ∷ remove es k) (remove es k)) + f (k, old) ≡ sum_by f (e ∷ es)
      by true r below found rest =
          let number : e.0 ≡ k = tied k e.0 r in
          let le : k ≤ e.0 = omega arith in
          let nothing : get es k ≡ None = none_under e.0 k es le below in
          let value : e.1 ≡ old = cc in
          let was : f e ≡ f (k, old) = ap₂ (λ n x. f (n, x)) number value in
          let left : sum_by f (remove es k) ≡ sum_by f es = ap (sum_by f) (remove_none k es nothing) in
          omega (arith, sum_by-cons f e es, was, left)
      by false r below found rest = omega (arith, sum_by-cons f e (remove es k), sum_by-cons f e es, rest found)
