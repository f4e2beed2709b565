use Rattle.base.proofs.ZeroLemmas.{length-zeros, slice_get-zeros}
use Rattle.base.proofs.zeros.zeros_are_zeros.Goals as goal

pub returns : goal.returns
returns c = record { length_is = length-zeros; each_is = slice_get-zeros }
