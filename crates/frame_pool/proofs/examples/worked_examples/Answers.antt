use Rattle.std.proofs.Common.{◌≡◌, ◌/◌, [], ◌∷◌, refl, ap}
use Rattle.base.specs.Zeros.{zeros}
use Rattle.base.proofs.ZeroLemmas.{length-zeros, no_zeros}
use Rattle.frame_pool.proofs.examples.worked_examples.Goals as goal

three_zeros : zeros 3 ≡ 0 ∷ 0 ∷ 0 ∷ []
unfolding zeros
three_zeros = refl

pub returns : goal.returns
returns c = record {
  no_zeros = no_zeros;
  three_zeros = three_zeros;
  no_pages = refl;
  less_than_a_page = refl;
  a_byte_less_than_two = ap (λ n. n / 4096) (length-zeros 8191);
  two_pages = ap (λ n. n / 4096) (length-zeros 8192);
}
