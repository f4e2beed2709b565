-- A file with zeros behind its bytes.
use Rattle.std.proofs.Common.{◌≡◌, ℕ, ◌-◌, ◌≤◌, List, length, arith, append-nil}
use Rattle.supplicant.specs.Files.{lengthened}

-- a file that ends behind this length has none
pub lengthened_long : (bytes : List ℕ) (len : ℕ) → len ≤ length bytes → lengthened bytes len ≡ bytes
lengthened_long bytes len long = let none : len - length bytes ≡ 0 = omega arith in rw none (append-nil bytes)
