-- The drivers' values in rising order, as a loop along all values lists them.
use Rattle.std.proofs.Common.{◌≡◌, ◌∙◌, ℕ, zero, suc, ◌+◌, ◌-◌, ◌≤◌, Bool, true, false, cond, [], ◌∷◌, ◌++◌, sym, ap, arith, add-zero, subst}
use Rattle.std.specs.List.{filter, range_with_len}
use Rattle.std.proofs.lemmas.List.{map-append}
use Rattle.std.proofs.lemmas.List.Elements.{filter-append}
use Rattle.notif.specs.Desk.{signal_values, unsignalled}

range_more : (a n : ℕ) → range_with_len a (suc n) ≡ range_with_len a n ++ (a + n) ∷ []
range_more a zero = ap (λ b. b ∷ []) (sym (add-zero a))
range_more a (suc n) =
    let same : a + 1 + n ≡ a + suc n = omega arith in
    ap (λ later. a ∷ later) (range_more (a + 1) n ∙ ap (λ b. range_with_len (a + 1) n ++ b ∷ []) same)

module _ (test : ℕ → Bool) where
  more : (n : ℕ) (b : Bool) → test (1 + n) ≡ b
      → unsignalled (filter test (range_with_len 1 (suc n))) ≡ unsignalled (filter test (range_with_len 1 n)) ++ cond b (record { value = 1 + n; count = 0 } ∷ []) []
  more n b passes =
      ap (λ values. unsignalled (filter test values)) (range_more 1 n)
      ∙ ap unsignalled (filter-append test (range_with_len 1 n) ((1 + n) ∷ []))
      ∙ ap (λ t. unsignalled (filter test (range_with_len 1 n) ++ cond t ((1 + n) ∷ []) [])) passes
      ∙ by_test b
    where
      by_test : (b : Bool) → unsignalled (filter test (range_with_len 1 n) ++ cond b ((1 + n) ∷ []) [])
          ≡ unsignalled (filter test (range_with_len 1 n)) ++ cond b (record { value = 1 + n; count = 0 } ∷ []) []
      by_test true = map-append _ (filter test (range_with_len 1 n)) ((1 + n) ∷ [])
      by_test false = map-append _ (filter test (range_with_len 1 n)) []

  -- at each value the list grows by the driver of this value, if there is one
  pub one_more : (value : ℕ) (b : Bool) → 1 ≤ value → test value ≡ b
      → unsignalled (filter test (range_with_len 1 (value + 1 - 1)))
      ≡ unsignalled (filter test (range_with_len 1 (value - 1))) ++ cond b (record { value = value; count = 0 } ∷ []) []
  one_more value b from_one passes = by_number (value - 1) (omega arith)
    where
      by_number : (n : ℕ) → value ≡ 1 + n → unsignalled (filter test (range_with_len 1 (value + 1 - 1)))
          ≡ unsignalled (filter test (range_with_len 1 (value - 1))) ++ cond b (record { value = value; count = 0 } ∷ []) []
      by_number n is =
          let after : value + 1 - 1 ≡ suc n = omega arith in
          let before : value - 1 ≡ n = omega arith in
          rw (after, before) (subst (λ v. unsignalled (filter test (range_with_len 1 (suc n))) ≡ unsignalled (filter test (range_with_len 1 n)) ++ cond b (record { value = v; count = 0 } ∷ []) [])
          (sym is) (more n b (ap test (sym is) ∙ passes)))

-- behind the last value all are listed
pub all_listed : (value : ℕ) → value ≡ 64 → range_with_len 1 (value - 1) ≡ signal_values
unfolding signal_values
all_listed value last = ap (λ v. range_with_len 1 (v - 1)) last
