-- In a map whose numbers rise, the first entry that passes a test has the least number.
use Rattle.std.proofs.Common.{◌≡◌, ℕ, ◌<◌, ◌^◌, Bool, true, false, cond, ◌&&◌, List, [], ◌∷◌, map, min, Some, refl, ap, ◌∙◌, arith}
use Rattle.std.specs.List.{All, filter, find, fold, reduce}
use Rattle.std.specs.Option.{option_map}
use Rattle.std.specs.Ordering.{nat_cmp, is_lt}
use Rattle.std.specs.FinMap.Entries as Entries
use Rattle.std.proofs.lemmas.Bool.Decides.{nat_tests}
use Rattle.std.proofs.lemmas.List.Elements.{All-head, All-tail}
use Rattle.base.specs.NumberMap.{NumberMap, IsRising}

both : (a b : Bool) → (a && b) ≡ true → (a ≡ true) × (b ≡ true)
both true b e = (refl, e)
both false b e = absurd (cc)

module _ {X : Type 0} (test : ℕ × X → Bool) where
  abbrev numbers : NumberMap X → List ℕ
  numbers m = map (λ (entry : ℕ × X). entry.0) (filter test m)

  least_of_rest : (k : ℕ) (m : NumberMap X) → Entries.below_all nat_cmp k m ≡ true → fold min k (numbers m) ≡ k
  least_of_rest k [] below = refl
  least_of_rest k (e ∷ es) below =
      let tests = both _ _ below in
      let rest : fold min k (numbers es) ≡ k = least_of_rest k es tests.1 in
      by_test (test e) (lesser k e.0 tests.0) rest
    where
      lesser : (i j : ℕ) → is_lt (nat_cmp i j) ≡ true → min i j ≡ i
      lesser i j lt = let less : i < j = grind (arith, nat_tests) in omega arith

      by_test : (b : Bool) → min k e.0 ≡ k → fold min k (numbers es) ≡ k →
          fold min k (map (λ (entry : ℕ × X). entry.0) (cond b (e ∷ filter test es) (filter test es))) ≡ k
      by_test true least rest = ap (λ n. fold min n (numbers es)) least ∙ rest
      by_test false least rest = rest

  pub least_is_first : (m : NumberMap X) → IsRising m → reduce min (numbers m) ≡ option_map (λ (entry : ℕ × X). entry.0) (find test m)
  least_is_first [] rising = refl
  least_is_first (e ∷ es) rising =
      let tests = both _ _ rising in
      by_test (test e) (least_of_rest e.0 es tests.0) (least_is_first es tests.1)
    where
      by_test : (b : Bool) → fold min e.0 (numbers es) ≡ e.0 → reduce min (numbers es) ≡ option_map (λ (entry : ℕ × X). entry.0) (find test es) →
          reduce min (map (λ (entry : ℕ × X). entry.0) (cond b (e ∷ filter test es) (filter test es))) ≡ option_map (λ (entry : ℕ × X). entry.0) (cond b (Some e) (find test es))
      by_test true least rest = ap (λ n. Some n) least
      by_test false least rest = rest

  -- where all numbers are those of a u32, so is that of the entry that is found
  pub found_in_range : (m : NumberMap X) (n : ℕ) → All (λ (entry : ℕ × X). entry.0 < 2 ^ 32) m → option_map (λ (entry : ℕ × X). entry.0) (find test m) ≡ Some n → n < 2 ^ 32
  found_in_range [] n all found = absurd (cc)
  found_in_range (e ∷ es) n all found =
      by_test (test e) (All-head (λ (entry : ℕ × X). entry.0 < 2 ^ 32) e es all) (found_in_range es n (All-tail (λ (entry : ℕ × X). entry.0 < 2 ^ 32) e es all)) found
    where
      by_test : (b : Bool) → e.0 < 2 ^ 32 → (option_map (λ (entry : ℕ × X). entry.0) (find test es) ≡ Some n → n < 2 ^ 32) →
          option_map (λ (entry : ℕ × X). entry.0) (cond b (Some e) (find test es)) ≡ Some n → n < 2 ^ 32
      by_test true low rest here = let same : e.0 ≡ n = cc in rw (← same) low
      by_test false low rest here = rest here
