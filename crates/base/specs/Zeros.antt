-- Zeros, as memory begins.
use Rattle.std.specs.Prelude.{◌≡◌, ℕ, ◌<◌, List, length, replicate, slice_get, Some}

-- so many zeros. No proof computes it, since a memory has too many bytes for that
unfoldable pub zeros : ℕ → List ℕ
zeros count = replicate count 0

-- what `zeros` is: so many bytes, each of them 0
pub record ZerosAreZeros : Type 0 where
  pub length_is : (count : ℕ) → length (zeros count) ≡ count
  pub each_is : (count at : ℕ) → at < count → slice_get (zeros count) at ≡ Some 0
