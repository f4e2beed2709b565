-- Finite maps, computed.
use Rattle.std.specs.Prelude.{◌≡◌, ℕ, [], ◌∷◌, Some, None}
use Rattle.base.specs.NumberMap.{get, insert, remove, NumberMap}

-- 10 at 1 and 30 at 3
abbrev pub small : NumberMap ℕ
small = (1, 10) ∷ (3, 30) ∷ []

pub record Examples : Type 0 where
  pub kept : get small 3 ≡ Some 30
  pub absent : get small 2 ≡ None
  pub between : insert small 2 20 ≡ (1, 10) ∷ (2, 20) ∷ (3, 30) ∷ []
  pub replaced : insert small 1 11 ≡ (1, 11) ∷ (3, 30) ∷ []
  pub removed : remove small 1 ≡ (3, 30) ∷ []
