-- What byteorder reads of a part that is long enough.
use Rattle.std.proofs.Common.{◌≡◌, ℕ, ◌≤◌, List, take, ◌∙◌, arith}
use Rattle.std.specs.Int.{w32, w64, from_le_bytes}
use Rattle.byteorder.specs.Endian.{little_number}
use Rattle.byteorder.specs.Numbers.{little_from-take}

pub little_64 : (m : ℕ) (xs : List ℕ) → 8 ≤ m → little_number 8 (take m xs) ≡ from_le_bytes w64 xs
little_64 m xs le =
    let whole : little_number 8 xs ≡ from_le_bytes w64 xs = omega arith in
    little_from-take 0 8 m xs le ∙ whole

pub little_32 : (m : ℕ) (xs : List ℕ) → 4 ≤ m → little_number 4 (take m xs) ≡ from_le_bytes w32 xs
little_32 m xs le =
    let whole : little_number 4 xs ≡ from_le_bytes w32 xs = omega arith in
    little_from-take 0 4 m xs le ∙ whole
