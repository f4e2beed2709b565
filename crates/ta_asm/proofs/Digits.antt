-- Numbers that words write.
use Rattle.std.proofs.Common.{◌≡◌, ℕ, ◌+◌, ◌*◌, ◌<◌, ◌≤◌, min, Bool, true, List, [], ◌∷◌, length, get_or, take, Some, None, refl, sym, ap, ◌∙◌, ◌⊎◌, inl, inr, arith}
use Rattle.std.specs.Prelude.{nat_lt}
use Rattle.std.specs.List.{list_all}
use Rattle.std.specs.Char.{digit_value}
use Rattle.std.specs.Str.Parse.{AllDigits, digits_value}
use Rattle.std.proofs.lemmas.Bool.{lt-ltb, le-ltb, and_from, and_right, cond-true, cond-false}
use Rattle.std.proofs.lemmas.Int.Digits.{digits_value_more, digits_more}
use Rattle.std.proofs.lemmas.List.{take_all}
use Rattle.std.proofs.Math.Nat.{le-mul_of_pos_right}
use Rattle.ta_asm.specs.Words.{are_digits, digits_at}

abbrev tests : ℕ → List ℕ → Bool
tests radix word = list_all (λ c. nat_lt (digit_value c) radix) word

tests_from_digits : (radix : ℕ) (word : List ℕ) → AllDigits radix word → tests radix word ≡ true
tests_from_digits radix [] d = refl
tests_from_digits radix (c ∷ cs) d = and_from _ _ (lt-ltb _ _ d.0) (tests_from_digits radix cs d.1)

pub one_more : (radix : ℕ) (word : List ℕ) (i byte digit : ℕ) → i < length word → AllDigits radix (take i word) → byte ≡ get_or word i 0 → (digit_value byte < radix) × (digit ≡ digit_value byte)
    → AllDigits radix (take (i + 1) word) × (digits_value radix (take (i + 1) word) ≡ digits_value radix (take i word) * radix + digit)
one_more radix word i byte digit lt d is v =
    let same : digit_value byte ≡ digit_value (get_or word i 0) = ap digit_value is in
    (digits_more radix word i lt d (omega (arith, same, v)), digits_value_more radix word i lt ∙ ap (λ (k : ℕ). digits_value radix (take i word) * radix + k) (sym (v.1 ∙ same)))

min_cases : (c v : ℕ) → ((v ≤ c) × (min c v ≡ v)) ⊎ ((c ≤ v) × (min c v ≡ c))
min_cases c v = grind arith

-- the number so far, at most 2^32
pub capped : (radix v n digit m next by last : ℕ) → 1 ≤ radix → n ≡ min 4294967296 v → m ≡ v * radix + digit → by ≡ radix → last ≡ digit → next ≡ min (n * by + last) 4294967296 → next ≡ min 4294967296 m
capped radix v n digit m next by last some is whole by_is last_is cut =
    let step : n * by ≡ n * radix = ap (λ (k : ℕ). n * k) by_is in
    elim (min_cases 4294967296 v) [
      | inl h ↦ let same : n ≡ v = is ∙ h.1 in let e : n * radix ≡ v * radix = ap (λ (k : ℕ). k * radix) same in omega (arith, e, step)
      | inr h ↦
          let same : n ≡ 4294967296 = is ∙ h.1 in
          let large : v ≤ v * radix = le-mul_of_pos_right v some in
          let also : n ≤ n * radix = le-mul_of_pos_right n some in
          omega (arith, large, also, step)
    ]

pub done : (radix : ℕ) (word : List ℕ) (i n : ℕ) → length word ≤ i → 0 < length word → AllDigits radix (take i word) × (n ≡ min 4294967296 (digits_value radix (take i word)))
    → (n < 4294967296 → Some n ≡ digits_at radix word) × (4294967296 ≤ n → None ≡ digits_at radix word)
unfolding digits_at
done radix word i n past some so_far =
    let all = take_all i word past in
    let all_digits : AllDigits radix word = rw all at so_far.0 in
    let value : n ≡ min 4294967296 (digits_value radix word) = rw all at so_far.1 in
    let are : are_digits radix word ≡ true = and_from _ _ (lt-ltb _ _ some) (tests_from_digits radix word all_digits) in (
      λ below.
          let same : n ≡ digits_value radix word = omega arith in
          let small : digits_value radix word < 4294967296 = omega arith in
          ap (λ (v : ℕ). Some v) same ∙ sym (cond-true _ (Some (digits_value radix word)) None (and_from _ _ are (lt-ltb _ _ small))),
      λ above.
          let large : 4294967296 ≤ digits_value radix word = omega arith in
          sym (cond-false _ (Some (digits_value radix word)) None (and_right _ _ (le-ltb _ _ large))),
    )
