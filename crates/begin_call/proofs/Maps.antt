-- Maps from numbers: their values seen as something else, and sums and counts over what they have.
use Rattle.std.proofs.Common.{◌≡◌, ℕ, ◌+◌, ◌<◌, Bool, true, false, not, cond, ◌&&◌, ◌||◌, [], ◌∷◌, map, Some, None, refl, sym, ap, ap₂, ◌∙◌, arith}
use Rattle.std.specs.List.{count_by, find, list_any, sum_by}
use Rattle.std.specs.Option.{option_map}
use Rattle.std.specs.Ordering.{nat_cmp, eq_by_cmp, is_eq, is_lt}
use Rattle.std.specs.declared.cmp.Ordering.TheVariants.{Less, Equal, Greater}
use Rattle.std.specs.FinMap.Entries as Entries
use Rattle.std.proofs.lemmas.Bool.Decides.{nat_tests}
use Rattle.std.proofs.lemmas.List.Sums.{sum_by-cons}
use Rattle.base.specs.NumberMap.{NumberMap, IsRising, get, insert, remove}

both : (a b : Bool) → (a && b) ≡ true → (a ≡ true) × (b ≡ true)
both true b e = (refl, e)
both false b e = absurd (cc)

same_number : (a : ℕ) → nat_cmp a a ≡ Equal
same_number a = grind (arith, nat_tests)

test_same : (a : ℕ) → eq_by_cmp nat_cmp a a ≡ true
test_same a = grind (arith, nat_tests)

tests_equal : (a b : ℕ) → eq_by_cmp nat_cmp a b ≡ true → a ≡ b
tests_equal a b equal = grind (arith, nat_tests)

test_less : (a b : ℕ) → is_lt (nat_cmp a b) ≡ true → eq_by_cmp nat_cmp a b ≡ false
test_less a b less = grind (arith, nat_tests)

-- ---- values seen as something else

module _ {X Y : Type 0} (f : X → Y) where
  abbrev pub seen : NumberMap X → NumberMap Y
  seen m = map (λ (kept : ℕ × X). (kept.0, f kept.1)) m

  pub get_seen : (m : NumberMap X) (k : ℕ) → get (seen m) k ≡ option_map f (get m k)
  get_seen [] k = refl
  get_seen (e ∷ es) k =
      elim (eq_by_cmp nat_cmp k e.0) as (λ b. cond b (Some (f e.1)) (get (seen es) k) ≡ option_map f (cond b (Some e.1) (get es k))) [
        | true ↦ refl
        | false ↦ get_seen es k
      ]

  pub insert_seen : (m : NumberMap X) (k : ℕ) (v : X) → seen (insert m k v) ≡ insert (seen m) k (f v)
  insert_seen [] k v = refl
  insert_seen (e ∷ es) k v =
      elim (nat_cmp k e.0) as (λ r. seen (Entries.by_order r ((k, v) ∷ e ∷ es) ((e.0, v) ∷ es) (e ∷ insert es k v))
      ≡ Entries.by_order r ((k, f v) ∷ seen (e ∷ es)) ((e.0, f v) ∷ seen es) ((e.0, f e.1) ∷ insert (seen es) k (f v))) [
        | Less ↦ refl
        | Equal ↦ refl
        | Greater ↦ ap (λ (rest : NumberMap Y). (e.0, f e.1) ∷ rest) (insert_seen es k v)
      ]

  -- the first that passes a test of what is seen
  pub find_seen : (test : Y → Bool) (m : NumberMap X) →
      find (λ (kept : ℕ × Y). test kept.1) (seen m) ≡ option_map (λ (kept : ℕ × X). (kept.0, f kept.1)) (find (λ (kept : ℕ × X). test (f kept.1)) m)
  find_seen test [] = refl
  find_seen test (e ∷ es) =
      elim (test (f e.1)) as (λ b. cond b (Some (e.0, f e.1)) (find (λ (kept : ℕ × Y). test kept.1) (seen es))
      ≡ option_map (λ (kept : ℕ × X). (kept.0, f kept.1)) (cond b (Some e) (find (λ (kept : ℕ × X). test (f kept.1)) es))) [
        | true ↦ refl
        | false ↦ find_seen test es
      ]

-- ---- one number

-- a number that lies below all others has nothing
none_below : {X : Type 0} (k : ℕ) (m : NumberMap X) → Entries.below_all nat_cmp k m ≡ true → get m k ≡ None
none_below k [] below = refl
none_below k (e ∷ es) below =
    let tests = both _ _ below in
    let miss : eq_by_cmp nat_cmp k e.0 ≡ false = test_less k e.0 tests.0 in
    rw miss (none_below k es tests.1)

-- one below the lowest, too
none_lower : {X : Type 0} (k low : ℕ) (m : NumberMap X) → k < low → Entries.below_all nat_cmp low m ≡ true → get m k ≡ None
none_lower k low [] less below = refl
none_lower k low (e ∷ es) less below =
    let tests = both _ _ below in
    let miss : eq_by_cmp nat_cmp k e.0 ≡ false = lower k low e.0 less tests.0 in
    rw miss (none_lower k low es less tests.1)
  where
    lower : (a b c : ℕ) → a < b → is_lt (nat_cmp b c) ≡ true → eq_by_cmp nat_cmp a c ≡ false
    lower a b c less test = grind (arith, nat_tests)

-- the value that was put there
pub get_inserted : {X : Type 0} (m : NumberMap X) (k : ℕ) (v : X) → get (insert m k v) k ≡ Some v
get_inserted [] k v = rw test_same refl
get_inserted {X} (e ∷ es) k v =
    elim (nat_cmp k e.0) as (λ r. nat_cmp k e.0 ≡ r → get (Entries.by_order r ((k, v) ∷ e ∷ es) ((e.0, v) ∷ es) (e ∷ insert es k v)) k ≡ Some v) [
      | Less ↦ λ _. ap (λ (b : Bool). cond b (Some v) (get (e ∷ es) k)) (test_same k)
      | Equal ↦ λ equal. ap (λ (b : Bool). cond b (Some v) (get es k)) (hit k e.0 equal)
      | Greater ↦ λ greater. ap (λ (b : Bool). cond b (Some e.1) (get (insert es k v) k)) (miss k e.0 greater) ∙ get_inserted es k v
    ] refl
  where
    hit : (a b : ℕ) → nat_cmp a b ≡ Equal → eq_by_cmp nat_cmp a b ≡ true
    hit a b equal = ap (λ r. is_eq r) equal

    miss : (a b : ℕ) → nat_cmp a b ≡ Greater → eq_by_cmp nat_cmp a b ≡ false
    miss a b greater = ap (λ r. is_eq r) greater

-- the second value is the one that stays
pub insert_twice : {X : Type 0} (m : NumberMap X) (k : ℕ) (v w : X) → insert (insert m k v) k w ≡ insert m k w
insert_twice [] k v w = rw same_number refl
insert_twice {X} (e ∷ es) k v w =
    elim (nat_cmp k e.0) as (λ r. nat_cmp k e.0 ≡ r → insert (Entries.by_order r ((k, v) ∷ e ∷ es) ((e.0, v) ∷ es) (e ∷ insert es k v)) k w
    ≡ Entries.by_order r ((k, w) ∷ e ∷ es) ((e.0, w) ∷ es) (e ∷ insert es k w)) [
      | Less ↦ λ _. ap (λ r. Entries.by_order r ((k, w) ∷ (k, v) ∷ e ∷ es) ((k, w) ∷ e ∷ es) ((k, v) ∷ insert (e ∷ es) k w)) (same_number k)
      | Equal ↦ λ equal. ap (λ r. Entries.by_order r ((k, w) ∷ (e.0, v) ∷ es) ((e.0, w) ∷ es) ((e.0, v) ∷ insert es k w)) equal
      | Greater ↦ λ greater. ap (λ r. Entries.by_order r ((k, w) ∷ e ∷ insert es k v) ((e.0, w) ∷ insert es k v) (e ∷ insert (insert es k v) k w)) greater
          ∙ ap (λ (rest : NumberMap X). e ∷ rest) (insert_twice es k v w)
    ] refl

-- in a map whose numbers rise, what is found is the value of its number
pub found_there : {X : Type 0} (test : ℕ × X → Bool) (m : NumberMap X) (kept : ℕ × X) → IsRising m → find test m ≡ Some kept → get m kept.0 ≡ Some kept.1
found_there test [] kept rising found = absurd (cc)
found_there {X} test (e ∷ es) kept rising found =
    let tests = both _ _ rising in
    by_test (test e) (none_below e.0 es tests.0) (found_there test es kept tests.1) found
  where
    here : e ≡ kept → get (e ∷ es) kept.0 ≡ Some kept.1
    here is = rw (← is, test_same e.0) refl

    later : (b : Bool) → eq_by_cmp nat_cmp kept.0 e.0 ≡ b → get es e.0 ≡ None → get es kept.0 ≡ Some kept.1 → cond b (Some e.1) (get es kept.0) ≡ Some kept.1
    later true equal none there = let same : kept.0 ≡ e.0 = tests_equal kept.0 e.0 equal in let nothing : get es kept.0 ≡ None = rw same none in absurd (cc)
    later false other none there = there

    by_test : (b : Bool) → get es e.0 ≡ None → (find test es ≡ Some kept → get es kept.0 ≡ Some kept.1) → cond b (Some e) (find test es) ≡ Some kept → get (e ∷ es) kept.0 ≡ Some kept.1
    by_test true none rest is = here (cc)
    by_test false none rest is = later (eq_by_cmp nat_cmp kept.0 e.0) refl none (rest is)

-- ---- sums

module _ {X : Type 0} (weight : X → ℕ) where
  abbrev pub weights : NumberMap X → ℕ
  weights m = sum_by (λ (kept : ℕ × X). weight kept.1) m

  weights_more : (e : ℕ × X) (es : NumberMap X) → weights (e ∷ es) ≡ weight e.1 + weights es
  weights_more e es = sum_by-cons (λ (kept : ℕ × X). weight kept.1) e es

  -- with one more
  pub weights_with : (m : NumberMap X) (k : ℕ) (v : X) → get m k ≡ None → weights (insert m k v) ≡ weight v + weights m
  weights_with [] k v none = weights_more (k, v) []
  weights_with (e ∷ es) k v none =
      elim (nat_cmp k e.0) as (λ r. nat_cmp k e.0 ≡ r → weights (Entries.by_order r ((k, v) ∷ e ∷ es) ((e.0, v) ∷ es) (e ∷ insert es k v)) ≡ weight v + weights (e ∷ es)) [
        | Less ↦ λ _. weights_more (k, v) (e ∷ es)
        | Equal ↦ λ equal. absurd (taken equal none)
        | Greater ↦ λ greater. let rest : weights (insert es k v) ≡ weight v + weights es = weights_with es k v (later greater none) in
            weights_more e (insert es k v) ∙ omega (arith, rest, weights_more e es)
      ] refl
    where
      taken : nat_cmp k e.0 ≡ Equal → get (e ∷ es) k ≡ None → ⊥
      taken equal none = let hit : eq_by_cmp nat_cmp k e.0 ≡ true = ap (λ r. is_eq r) equal in let some : Some e.1 ≡ None = rw hit at none in cc

      later : nat_cmp k e.0 ≡ Greater → get (e ∷ es) k ≡ None → get es k ≡ None
      later greater none = let miss : eq_by_cmp nat_cmp k e.0 ≡ false = ap (λ r. is_eq r) greater in rw miss at none

  -- with another of the same weight in place of one
  pub weights_stay : (m : NumberMap X) (k : ℕ) (old new : X) → IsRising m → get m k ≡ Some old → weight new ≡ weight old → weights (insert m k new) ≡ weights m
  weights_stay [] k old new rising is same = absurd (cc)
  weights_stay (e ∷ es) k old new rising is same =
      let tests = both _ _ rising in
      elim (nat_cmp k e.0) as (λ r. nat_cmp k e.0 ≡ r → weights (Entries.by_order r ((k, new) ∷ e ∷ es) ((e.0, new) ∷ es) (e ∷ insert es k new)) ≡ weights (e ∷ es)) [
        | Less ↦ λ less. absurd (missing less tests.0)
        | Equal ↦ λ equal. weights_more (e.0, new) es ∙ ap (λ n. n + weights es) (same ∙ sym (ap weight (here equal))) ∙ sym (weights_more e es)
        | Greater ↦ λ greater. weights_more e (insert es k new) ∙ ap (λ n. weight e.1 + n) (weights_stay es k old new tests.1 (later greater) same) ∙ sym (weights_more e es)
      ] refl
    where
      here : nat_cmp k e.0 ≡ Equal → e.1 ≡ old
      here equal = let hit : eq_by_cmp nat_cmp k e.0 ≡ true = ap (λ r. is_eq r) equal in let some : Some e.1 ≡ Some old = rw hit at is in cc

      later : nat_cmp k e.0 ≡ Greater → get es k ≡ Some old
      later greater = let miss : eq_by_cmp nat_cmp k e.0 ≡ false = ap (λ r. is_eq r) greater in rw miss at is

      below : (a b : ℕ) → nat_cmp a b ≡ Less → a < b
      below a b less = grind (arith, nat_tests)

      missing : nat_cmp k e.0 ≡ Less → Entries.below_all nat_cmp e.0 es ≡ true → ⊥
      missing less all =
          let miss : eq_by_cmp nat_cmp k e.0 ≡ false = ap (λ r. is_eq r) less in
          let rest : get es k ≡ Some old = rw miss at is in
          let none : get es k ≡ None = none_lower k e.0 es (below k e.0 less) all in
          cc

-- ---- counts

-- how many pass where one passes or not
abbrev pub one_if : Bool → ℕ
one_if passes = cond passes 1 0

module _ {X : Type 0} (test : ℕ × X → Bool) where
  count_more : (e : ℕ × X) (es : NumberMap X) → count_by test (e ∷ es) ≡ one_if (test e) + count_by test es
  count_more e es = sum_by-cons (λ (kept : ℕ × X). cond (test kept) 1 0) e es

  pub none_counted : (m : NumberMap X) → count_by test m ≡ 0 → list_any test m ≡ false
  none_counted [] none = refl
  none_counted (e ∷ es) none = by_test (test e) (count_more e es) (none_counted es)
    where
      by_test : (b : Bool) → count_by test (e ∷ es) ≡ one_if b + count_by test es → (count_by test es ≡ 0 → list_any test es ≡ false) → (b || list_any test es) ≡ false
      by_test true is rest = absurd (omega arith)
      by_test false is rest = rest (omega arith)

  pub some_counted : (m : NumberMap X) → 0 < count_by test m → list_any test m ≡ true
  some_counted [] some = absurd (omega arith)
  some_counted (e ∷ es) some = by_test (test e) (count_more e es) (some_counted es)
    where
      by_test : (b : Bool) → count_by test (e ∷ es) ≡ one_if b + count_by test es → (0 < count_by test es → list_any test es ≡ true) → (b || list_any test es) ≡ true
      by_test true is rest = refl
      by_test false is rest = rest (omega arith)

  -- a number that has nothing takes nothing away
  remove_nothing : (m : NumberMap X) (k : ℕ) → get m k ≡ None → remove m k ≡ m
  remove_nothing [] k none = refl
  remove_nothing (e ∷ es) k none = by_test (eq_by_cmp nat_cmp k e.0) none (remove_nothing es k)
    where
      by_test : (b : Bool) → cond b (Some e.1) (get es k) ≡ None → (get es k ≡ None → remove es k ≡ es) → cond (not b) (e ∷ remove es k) (remove es k) ≡ e ∷ es
      by_test true none rest = absurd (cc)
      by_test false none rest = ap (λ (others : NumberMap X). e ∷ others) (rest none)

  -- without one
  pub count_without : (m : NumberMap X) (k : ℕ) (v : X) → IsRising m → get m k ≡ Some v → count_by test m ≡ one_if (test (k, v)) + count_by test (remove m k)
  count_without [] k v rising is = absurd (cc)
  count_without (e ∷ es) k v rising is =
      let tests = both _ _ rising in
      by_test (eq_by_cmp nat_cmp k e.0) refl (none_below e.0 es tests.0) is (count_without es k v tests.1)
    where
      by_test : (b : Bool) → eq_by_cmp nat_cmp k e.0 ≡ b → get es e.0 ≡ None → cond b (Some e.1) (get es k) ≡ Some v
          → (get es k ≡ Some v → count_by test es ≡ one_if (test (k, v)) + count_by test (remove es k))
          → count_by test (e ∷ es) ≡ one_if (test (k, v)) + count_by test (cond (not b) (e ∷ remove es k) (remove es k))
      by_test true equal none here rest =
          let same : k ≡ e.0 = tests_equal k e.0 equal in
          let value : e.1 ≡ v = cc in
          let entry : e ≡ (k, v) = ap₂ (λ (number : ℕ) (value : X). (number, value)) (sym same) value in
          let gone : remove es k ≡ es = remove_nothing es k (rw same none) in
          count_more e es ∙ ap₂ (λ (entry : ℕ × X) (others : NumberMap X). one_if (test entry) + count_by test others) entry (sym gone)
      by_test false other none there rest =
          let fewer : count_by test es ≡ one_if (test (k, v)) + count_by test (remove es k) = rest there in
          count_more e es ∙ omega (arith, fewer, count_more e (remove es k))
