-- Numbers of four and of eight bytes, the lowest byte first: the bytes of a number that was read are those that it
-- was read from.
use Rattle.std.proofs.Common.{◌≡◌, ℕ, ◌+◌, ◌^◌, ◌<◌, ◌≤◌, List, ◌++◌, length, get_or, take, drop, sym, ap, ◌∙◌, arith, inl, inr}
use Rattle.std.specs.Int.{w32, w64, from_le_bytes, to_le_bytes}
use Rattle.std.proofs.lemmas.Bool.{cases_lt}
use Rattle.std.proofs.lemmas.List.{take-append-drop, drop-drop, length-take, length-drop, get_or-take, get_or-drop, get_or_past}
use Rattle.std.proofs.lemmas.Nat.{le_bytes_4, le_bytes_8}

abbrev pub IsBytes : List ℕ → Type 0
IsBytes bytes = (i : ℕ) → get_or bytes i 0 < 256

pub IsBytes-drop : (n : ℕ) (bytes : List ℕ) → IsBytes bytes → IsBytes (drop n bytes)
IsBytes-drop n bytes h i = rw get_or-drop (h (n + i))

pub IsBytes-take : (n : ℕ) (bytes : List ℕ) → IsBytes bytes → IsBytes (take n bytes)
IsBytes-take n bytes h i =
    elim (cases_lt i n) [
      | inl lt ↦ rw (get_or-take n bytes i 0 lt) (h i)
      | inr le ↦ rw (get_or_past (take n bytes) i 0 (omega (arith, length-take n bytes))) (omega arith)
    ]

-- a part and what stands behind it
join : (w k : ℕ) (bytes : List ℕ) → take w (drop k bytes) ++ drop (k + w) bytes ≡ drop k bytes
join w k bytes = ap (λ (x : List ℕ). take w (drop k bytes) ++ x) (sym (drop-drop w k bytes)) ∙ take-append-drop w (drop k bytes)

from-take_32 : (xs : List ℕ) → from_le_bytes w32 xs ≡ from_le_bytes w32 (take 4 xs)
from-take_32 xs =
    omega (arith, get_or-take 4 xs 0 0 (omega arith), get_or-take 4 xs 1 0 (omega arith), get_or-take 4 xs 2 0 (omega arith), get_or-take 4 xs 3 0 (omega arith))

from-take_64 : (xs : List ℕ) → from_le_bytes w64 xs ≡ from_le_bytes w64 (take 8 xs)
from-take_64 xs =
    omega (arith, get_or-take 8 xs 0 0 (omega arith), get_or-take 8 xs 1 0 (omega arith), get_or-take 8 xs 2 0 (omega arith), get_or-take 8 xs 3 0 (omega arith), get_or-take 8 xs 4 0 (omega arith), get_or-take 8 xs 5 0 (omega arith), get_or-take 8 xs 6 0 (omega arith), get_or-take 8 xs 7 0 (omega arith))

-- the bytes of the number at a place, and what stands behind it
pub u32_back : (k : ℕ) (bytes tail : List ℕ) → k + 4 ≤ length bytes → IsBytes bytes → tail ≡ drop (k + 4) bytes → to_le_bytes w32 (from_le_bytes w32 (drop k bytes)) ++ tail ≡ drop k bytes
u32_back k bytes tail le fits e =
    let four : length (take 4 (drop k bytes)) ≡ 4 = omega (arith, length-take 4 (drop k bytes), length-drop k bytes) in
    let here : to_le_bytes w32 (from_le_bytes w32 (drop k bytes)) ≡ take 4 (drop k bytes) = le_bytes_4 (take 4 (drop k bytes)) (from_le_bytes w32 (drop k bytes)) four (IsBytes-take 4 (drop k bytes) (IsBytes-drop k bytes fits)) (from-take_32 (drop k bytes)) in
    ap (λ (x : List ℕ). x ++ tail) here ∙ ap (λ (x : List ℕ). take 4 (drop k bytes) ++ x) e ∙ join 4 k bytes

pub u64_back : (k : ℕ) (bytes tail : List ℕ) → k + 8 ≤ length bytes → IsBytes bytes → tail ≡ drop (k + 8) bytes → to_le_bytes w64 (from_le_bytes w64 (drop k bytes)) ++ tail ≡ drop k bytes
u64_back k bytes tail le fits e =
    let eight : length (take 8 (drop k bytes)) ≡ 8 = omega (arith, length-take 8 (drop k bytes), length-drop k bytes) in
    let here : to_le_bytes w64 (from_le_bytes w64 (drop k bytes)) ≡ take 8 (drop k bytes) = le_bytes_8 (take 8 (drop k bytes)) (from_le_bytes w64 (drop k bytes)) eight (IsBytes-take 8 (drop k bytes) (IsBytes-drop k bytes fits)) (from-take_64 (drop k bytes)) in
    ap (λ (x : List ℕ). x ++ tail) here ∙ ap (λ (x : List ℕ). take 8 (drop k bytes) ++ x) e ∙ join 8 k bytes

-- the number fits
pub u32-lt : (k : ℕ) (bytes : List ℕ) → IsBytes bytes → from_le_bytes w32 (drop k bytes) < 2 ^ 32
u32-lt k bytes fits =
    let h = IsBytes-drop k bytes fits in omega (arith, h 0, h 1, h 2, h 3)

pub u64-lt : (k : ℕ) (bytes : List ℕ) → IsBytes bytes → from_le_bytes w64 (drop k bytes) < 2 ^ 64
u64-lt k bytes fits =
    let h = IsBytes-drop k bytes fits in
    omega (arith, h 0, h 1, h 2, h 3, h 4, h 5, h 6, h 7)
