-- The definitions on small inputs.
use Rattle.std.specs.Prelude.{◌≡◌, [], ◌∷◌}
use Rattle.base.specs.Zeros.{zeros}
use Rattle.frame_pool.specs.Pages.{page_count}

pub record Examples : Type 0 where
  pub no_zeros : zeros 0 ≡ []
  pub three_zeros : zeros 3 ≡ 0 ∷ 0 ∷ 0 ∷ []
  pub no_pages : page_count [] ≡ 0
  pub less_than_a_page : page_count (1 ∷ 2 ∷ []) ≡ 0
  pub a_byte_less_than_two : page_count (zeros 8191) ≡ 1
  pub two_pages : page_count (zeros 8192) ≡ 2
