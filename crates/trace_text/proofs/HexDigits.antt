-- Hexadecimal digits by the table, as the `hex` crate reads them.
use Rattle.std.proofs.Common.{◌≡◌, ℕ, zero, suc, ◌+◌, ◌-◌, ◌*◌, ◌%◌, ◌<◌, Bool, true, false, ◌&&◌, T, cond, eqb, ltb, List, [], ◌∷◌, ◌++◌, length, get_or, take, drop, Option, Some, None, Result, Ok, Err, inl, inr, min, refl, sym, ap, ◌∙◌, arith, eq-zero-or-pos, eqb→eq}
use Rattle.std.specs.Char.{digit_value}
use Rattle.std.specs.Result.{IsErr}
use Rattle.std.proofs.lemmas.Bool.{lt-ltb}
use Rattle.std.proofs.lemmas.List.{append-nil, drop_all, take_all}
use lib.Ieee.Fits.{and_l, and_r}
use Rattle.hex.specs.Hex.{decode_pairs, hex_digit_value, pair_value}
use Rattle.hex.proofs.HexLemmas.{decode_of-even, decode_of-odd}
use Rattle.hex.proofs.Pairs.{decode_err, prepend}
use Rattle.trace_text.specs.declared.fault.BadKind.TheVariants as bad
use Rattle.trace_text.specs.Forms.{bytes, is_hex}
use Rattle.trace_text.specs.Limits.{first_broken}

-- the value of a digit and one, or 0 where there is none
abbrev code : Option ℕ → ℕ
code None = 0
code (Some value) = suc value

abbrev told : ℕ → ℕ
told digit = cond (ltb digit 16) (suc digit) 0

-- the bytes below n are read alike
abbrev are_alike_below : ℕ → Bool
are_alike_below zero = true
are_alike_below (suc b) = eqb (code (hex_digit_value b)) (told (min 16 (digit_value b))) && are_alike_below b

below : (n b : ℕ) → T (are_alike_below n) → b < n → code (hex_digit_value b) ≡ told (min 16 (digit_value b))
below zero b t h = absurd (omega arith)
below (suc n) b t h =
    elim (eq-zero-or-pos (n - b)) [
      | inl z ↦ let e : b ≡ n = omega arith in rw e (eqb→eq _ _ (and_l _ (are_alike_below n) t))
      | inr g ↦ below n b (and_r _ (are_alike_below n) t) (omega arith)
    ]

alike : (b : ℕ) → b < 256 → code (hex_digit_value b) ≡ told (min 16 (digit_value b))
alike b h = below 256 b tt h

is_digit : (o : Option ℕ) (digit : ℕ) (small : Bool) → ltb digit 16 ≡ small → small ≡ true → code o ≡ cond small (suc digit) 0 → o ≡ Some digit
is_digit o digit false is lt e = absurd cc
is_digit None digit true is lt e = absurd (omega (arith, e))
is_digit (Some value) digit true is lt e = let same : value ≡ digit = omega (arith, e) in ap (λ (n : ℕ). Some n) same

digit_there : (c digit : ℕ) → c < 256 → digit ≡ min 16 (digit_value c) → digit < 16 → hex_digit_value c ≡ Some digit
digit_there c digit fits is lt = is_digit (hex_digit_value c) digit (ltb digit 16) refl (lt-ltb digit 16 lt) (alike c fits ∙ ap told (sym is))

pub pair_there : (high low h l place : ℕ) → high < 256 → low < 256 → h ≡ min 16 (digit_value high) → l ≡ min 16 (digit_value low) → h < 16 → l < 16 → pair_value high low place ≡ Ok (h * 16 + l)
pair_there high low h l place fits fits_too is_h is_l small small_too = rw (digit_there high h fits is_h small, digit_there low l fits_too is_l small_too) refl

-- ---- the digits of a word

err_there : {A E : Type 0} (r : Result A E) → IsErr r → (e : E) × (r ≡ Err e)
err_there (Ok x) bad = absurd cc
err_there (Err e) bad = (e, refl)

pub pair_refused : (word out : List ℕ) (i : ℕ) → 2 * i + 1 < length word → IsErr (pair_value (get_or word (2 * i) 0) (get_or word (2 * i + 1) 0) (2 * i))
    → decode_pairs 0 word ≡ prepend (take i out) (decode_pairs (2 * i) (drop (2 * i) word)) → IsErr (decode_pairs 0 word)
pair_refused word out i fits bad so_far =
    let e = err_there (pair_value (get_or word (2 * i) 0) (get_or word (2 * i + 1) 0) (2 * i)) bad in
    rw (decode_err word out i e.0 fits e.1 so_far) refl

pub odd_bad : (word : List ℕ) → (length word % 2 ≡ 0 → ⊥) → first_broken ((bad.Hex, is_hex word) ∷ []) ≡ Some bad.Hex
unfolding is_hex
odd_bad word odd = rw (decode_of-odd word (omega arith)) refl

pub digits_bad : (word : List ℕ) → length word % 2 ≡ 0 → IsErr (decode_pairs 0 word) → first_broken ((bad.Hex, is_hex word) ∷ []) ≡ Some bad.Hex
unfolding is_hex
digits_bad word even bad = let e = err_there (decode_pairs 0 word) bad in rw (decode_of-even word even, e.1) refl

pub digits_read : (word out : List ℕ) → length word % 2 ≡ 0 → decode_pairs 0 word ≡ Ok out → (first_broken ((bad.Hex, is_hex word) ∷ []) ≡ None) × (out ≡ bytes word)
unfolding is_hex bytes
digits_read word out even read = rw (decode_of-even word even, read) (refl, refl)

-- all of a list is written anew
pub written : (out items : List ℕ) (len : ℕ) → length out ≡ len → length items ≡ len → take len (out ++ drop (length out) items) ≡ out
written out items len new old = rw (drop_all (length out) items (omega (arith, new, old)), append-nil out, take_all len out (omega (arith, new))) refl
