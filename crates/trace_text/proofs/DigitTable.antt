-- The table of digits, byte by byte.
use Rattle.std.proofs.Common.{◌≡◌, ℕ, zero, suc, ◌-◌, ◌<◌, Bool, true, ◌&&◌, T, eqb, get_or, inl, inr, min, arith, eq-zero-or-pos, eqb→eq}
use Rattle.std.specs.Char.{digit_value}
use lib.Ieee.Fits.{and_l, and_r}
use Rattle.trace_text.specs.declared.digit.TheConstants.{DIGITS}

-- the bytes below n have their digits
abbrev are_digits_below : ℕ → Bool
are_digits_below zero = true
are_digits_below (suc b) = eqb (get_or DIGITS b 0) (min 16 (digit_value b)) && are_digits_below b

below : (n b : ℕ) → T (are_digits_below n) → b < n → get_or DIGITS b 0 ≡ min 16 (digit_value b)
below zero b t h = absurd (omega arith)
below (suc n) b t h =
    elim (eq-zero-or-pos (n - b)) [
      | inl z ↦ let e : b ≡ n = omega arith in rw e (eqb→eq _ _ (and_l _ (are_digits_below n) t))
      | inr g ↦ below n b (and_r _ (are_digits_below n) t) (omega arith)
    ]

pub table_at : (b : ℕ) → b < 256 → get_or DIGITS b 0 ≡ min 16 (digit_value b)
table_at b h = below 256 b tt h
