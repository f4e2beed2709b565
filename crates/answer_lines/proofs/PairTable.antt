-- The table of pairs of digits, byte by byte.
use Rattle.std.proofs.Common.{◌≡◌, ℕ, zero, suc, ◌-◌, ◌/◌, ◌%◌, ◌<◌, Bool, true, false, ◌&&◌, T, eqb, get_or, slice_index, List, [], ◌∷◌, length, inl, inr, refl, arith, eq-zero-or-pos, eqb→eq}
use Rattle.hex.specs.Hex.{encode_lower, encode_with, lower_digits}
use lib.Ieee.Fits.{and_l, and_r}
use Rattle.answer_lines.specs.declared.digits.TheConstants.{PAIRS}

-- the list has these two elements
abbrev is_pair : List ℕ → ℕ → ℕ → Bool
is_pair [] first second = false
is_pair (one ∷ []) first second = false
is_pair (one ∷ two ∷ []) first second = eqb one first && eqb two second
is_pair (one ∷ two ∷ three ∷ rest) first second = false

pair_is : (pair : List ℕ) (first second : ℕ) → T (is_pair pair first second) → pair ≡ first ∷ second ∷ []
pair_is [] first second t = absurd t
pair_is (one ∷ []) first second t = absurd t
pair_is (one ∷ two ∷ []) first second t =
    let a : one ≡ first = eqb→eq _ _ (and_l _ (eqb two second) t) in
    let b : two ≡ second = eqb→eq _ _ (and_r (eqb one first) _ t) in
    cc
pair_is (one ∷ two ∷ three ∷ rest) first second t = absurd t

-- the bytes below n have their digits
abbrev are_pairs_below : ℕ → Bool
are_pairs_below zero = true
are_pairs_below (suc b) =
    is_pair (get_or PAIRS b []) (slice_index lower_digits (b / 16)) (slice_index lower_digits (b % 16))
    && are_pairs_below b

below : (n b : ℕ) → T (are_pairs_below n) → b < n
    → get_or PAIRS b [] ≡ slice_index lower_digits (b / 16) ∷ slice_index lower_digits (b % 16) ∷ []
below zero b t h = absurd (omega arith)
below (suc n) b t h =
    elim (eq-zero-or-pos (n - b)) [
      | inl z ↦ let e : b ≡ n = omega arith in
          rw e
          (pair_is (get_or PAIRS n []) (slice_index lower_digits (n / 16)) (slice_index lower_digits (n % 16))
          (and_l _ (are_pairs_below n) t))
      | inr g ↦ below n b (and_r _ (are_pairs_below n) t) (omega arith)
    ]

pub pair_at : (b : ℕ) → b < 256 → get_or PAIRS b [] ≡ encode_lower (b ∷ [])
unfolding encode_with
pair_at b h = below 256 b tt h

-- the digits of four bytes
pub four_pairs : (bytes one two three four : List ℕ) → length bytes ≡ 4 → one ≡ encode_lower (get_or bytes 0 0 ∷ [])
    → two ≡ encode_lower (get_or bytes 1 0 ∷ []) → three ≡ encode_lower (get_or bytes 2 0 ∷ [])
    → four ≡ encode_lower (get_or bytes 3 0 ∷ [])
    → get_or one 0 0 ∷ get_or one 1 0 ∷ get_or two 0 0 ∷ get_or two 1 0 ∷ get_or three 0 0 ∷ get_or three 1 0 ∷ get_or four 0 0 ∷ get_or four 1 0 ∷ [] ≡ encode_lower bytes
unfolding encode_with
four_pairs [] one two three four len a b c d = absurd (omega arith)
four_pairs (b0 ∷ []) one two three four len a b c d = absurd (omega arith)
four_pairs (b0 ∷ b1 ∷ []) one two three four len a b c d = absurd (omega arith)
four_pairs (b0 ∷ b1 ∷ b2 ∷ []) one two three four len a b c d = absurd (omega arith)
four_pairs (b0 ∷ b1 ∷ b2 ∷ b3 ∷ []) one two three four len a b c d = rw (a, b, c, d) refl
four_pairs (b0 ∷ b1 ∷ b2 ∷ b3 ∷ b4 ∷ rest) one two three four len a b c d = absurd (omega arith)
