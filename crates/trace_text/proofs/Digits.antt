-- Numbers that words write.
use Rattle.std.proofs.Common.{◌≡◌, ℕ, ◌+◌, ◌*◌, ◌^◌, ◌<◌, ◌≤◌, min, Bool, true, false, not, ◌&&◌, leb, List, [], ◌∷◌, length, get_or, take, Some, None, sym, ap, ◌∙◌, refl, arith}
use Rattle.std.specs.Prelude.{nat_lt}
use Rattle.std.specs.Option.{option_map}
use Rattle.std.specs.List.{list_all}
use Rattle.std.specs.Char.{digit_value}
use Rattle.std.specs.Str.Parse.{AllDigits, digits_value}
use Rattle.std.proofs.lemmas.Bool.{ltb-true, leb-true, lt-ltb, le-leb, and_parts, and_from, cond-true}
use Rattle.std.proofs.Math.Nat.{pow-le-pow_right}
use Rattle.std.proofs.lemmas.Int.Digits.{digits_value-lt, digits_value_more, digits_more}
use Rattle.std.proofs.lemmas.List.{length-take, take_all}
use Rattle.trace_text.specs.Reading.{are_digits, has_leading_zero, decimal_at, hexadecimal_at}
use Rattle.text_lines.proofs.Options.{guard_some}

abbrev tests : ℕ → List ℕ → Bool
tests radix word = list_all (λ c. nat_lt (digit_value c) radix) word

pub digits_from_tests : (radix : ℕ) (word : List ℕ) → tests radix word ≡ true → AllDigits radix word
digits_from_tests radix [] e = tt
digits_from_tests radix (c ∷ cs) e =
    let p = and_parts _ (tests radix cs) e in
    (ltb-true _ _ p.0, digits_from_tests radix cs p.1)

tests_from_digits : (radix : ℕ) (word : List ℕ) → AllDigits radix word → tests radix word ≡ true
tests_from_digits radix [] d = refl
tests_from_digits radix (c ∷ cs) d = and_from _ _ (lt-ltb _ _ d.0) (tests_from_digits radix cs d.1)

pub are_digits_from : (radix : ℕ) (word : List ℕ) → 0 < length word → AllDigits radix word → are_digits radix word ≡ true
are_digits_from radix word some d = and_from _ _ (lt-ltb _ _ some) (tests_from_digits radix word d)

-- ---- whole words

decimal_some : (word : List ℕ) → AllDigits 10 word → 0 < length word → has_leading_zero word ≡ false → decimal_at word ≡ Some (digits_value 10 word)
unfolding decimal_at
decimal_some word d some lead = cond-true _ (Some (digits_value 10 word)) None (and_from _ _ (are_digits_from 10 word some d) (ap not lead))

hexadecimal_some : (most : ℕ) (word : List ℕ) → AllDigits 16 word → 0 < length word → length word ≤ most → hexadecimal_at most word ≡ Some (digits_value 16 word)
unfolding hexadecimal_at
hexadecimal_some most word d some short =
    cond-true _ (Some (digits_value 16 word)) None (and_from _ _ (are_digits_from 16 word some d) (le-leb _ _ short))

-- eight hexadecimal digits fit 32 bits
pub hexadecimal_fits : (word : List ℕ) (n : ℕ) → Some n ≡ hexadecimal_at 8 word → n < 2 ^ 32
unfolding hexadecimal_at
hexadecimal_fits word n e =
    let g = guard_some (are_digits 16 word && leb (length word) 8) (digits_value 16 word) n (sym e) in
    let p = and_parts (are_digits 16 word) (leb (length word) 8) g.0 in
    let digits = digits_from_tests 16 word (and_parts _ (tests 16 word) p.0).1 in
    let below = digits_value-lt 16 word digits in
    omega (arith, below, g.1, pow-le-pow_right {n = 16} (omega arith) (leb-true _ _ p.1))

-- ---- digits one after the other

-- fifteen hexadecimal digits leave room for one more in 64 bits
pub room : (word : List ℕ) (i : ℕ) → i < 16 → AllDigits 16 (take i word) → digits_value 16 (take i word) < 16 ^ 15
room word i lt d =
    let below = digits_value-lt 16 (take i word) d in
    let short : length (take i word) ≤ 15 = omega (arith, length-take i word) in
    omega (arith, below, pow-le-pow_right {n = 16} (omega arith) short)

pub one_more : (radix : ℕ) (word : List ℕ) (i digit : ℕ) → radix ≤ 16 → i < length word → AllDigits radix (take i word) → digit ≡ min 16 (digit_value (get_or word i 0)) → digit < radix
    → AllDigits radix (take (i + 1) word) × (digits_value radix (take (i + 1) word) ≡ digits_value radix (take i word) * radix + digit)
one_more radix word i digit small lt d is below =
    let same : digit ≡ digit_value (get_or word i 0) = omega arith in
    (digits_more radix word i lt d (omega arith), digits_value_more radix word i lt ∙ ap (λ (k : ℕ). digits_value radix (take i word) * radix + k) (sym same))

pub saturated : (a b n m v digit : ℕ) → n ≡ min 4294967295 v → a ≡ min (n * 10) 4294967295 → b ≡ min (a + digit) 4294967295 → m ≡ v * 10 + digit → b ≡ min 4294967295 m
saturated a b n m v digit is doubled added whole = omega arith

pub decimal_done : (word : List ℕ) (i n : ℕ) → length word ≤ i → 0 < length word → has_leading_zero word ≡ false
    → AllDigits 10 (take i word) × (n ≡ min 4294967295 (digits_value 10 (take i word))) → Some n ≡ option_map (min 4294967295) (decimal_at word)
decimal_done word i n past some lead (d, is) =
    let all = take_all i word past in
    let all_digits : AllDigits 10 word = rw all at d in
    let value : n ≡ min 4294967295 (digits_value 10 word) = rw all at is in
    ap (λ (v : ℕ). Some v) value ∙ sym (ap (option_map (min 4294967295)) (decimal_some word all_digits some lead))

pub hexadecimal_done : (most : ℕ) (word : List ℕ) (i n : ℕ) → length word ≤ i → 0 < length word → length word ≤ most
    → AllDigits 16 (take i word) × (n ≡ digits_value 16 (take i word)) → Some n ≡ hexadecimal_at most word
hexadecimal_done most word i n past some short (d, is) =
    let all = take_all i word past in
    let all_digits : AllDigits 16 word = rw all at d in
    let value : n ≡ digits_value 16 word = rw all at is in
    ap (λ (v : ℕ). Some v) value ∙ sym (hexadecimal_some most word all_digits some short)
