-- Pages as the list of their bytes.
use Rattle.std.specs.Prelude.{◌≡◌, ℕ, ◌*◌, ◌/◌, List, length, All}
use Rattle.base.specs.Zeros.{zeros}

-- how many pages these bytes fill
abbrev pub page_count : List ℕ → ℕ
page_count bytes = length bytes / 4096

-- each of these lists has as many bytes as a page
abbrev pub AreWhole : List (List ℕ) → Type 0
AreWhole frames = All (λ frame. length frame ≡ 4096) frames

-- so many pages of zeros are so many pages
abbrev pub PagesOfZeros : Type 0
PagesOfZeros = (n : ℕ) → page_count (zeros (4096 * n)) ≡ n
