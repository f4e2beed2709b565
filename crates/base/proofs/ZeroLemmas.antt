-- Lists of zeros: their lengths, elements and parts.
use Rattle.std.proofs.Common.{◌≡◌, ℕ, zero, suc, ◌+◌, ◌-◌, ◌<◌, ◌≤◌, [], ◌++◌, length, take, drop, Some, refl, arith}
use Rattle.std.proofs.lemmas.List.{replicate-append-replicate, length-replicate, drop-replicate, take-replicate}
use Rattle.std.specs.List.{slice_get}
use Rattle.base.specs.Zeros.{zeros}

pub no_zeros : zeros 0 ≡ []
unfolding zeros
no_zeros = refl

pub zeros_more : (m n : ℕ) → zeros m ++ zeros n ≡ zeros (m + n)
unfolding zeros
zeros_more m n = replicate-append-replicate m n 0

pub length-zeros : (count : ℕ) → length (zeros count) ≡ count
unfolding zeros
length-zeros count = length-replicate count 0

pub slice_get-zeros : (count at : ℕ) → at < count → slice_get (zeros count) at ≡ Some 0
unfolding zeros
slice_get-zeros zero at h = absurd (omega arith)
slice_get-zeros (suc count) zero h = refl
slice_get-zeros (suc count) (suc at) h = slice_get-zeros count at (omega arith)

pub zeros-part : (count at len : ℕ) → at + len ≤ count → take len (drop at (zeros count)) ≡ zeros len
unfolding zeros
zeros-part count at len h = rw (drop-replicate {X = ℕ} at count 0) (take-replicate {X = ℕ} len (count - at) 0 (omega arith))
