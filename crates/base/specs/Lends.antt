-- What a table ends as, where a `&mut` to a value is returned.
use Rattle.std.specs.Prelude.{ℕ}
use Rattle.std.specs.Borrow.{Lends, MutBor, Fml, RattleType}
use Rattle.base.specs.NumberMap.{NumberMap, insert}
use Rattle.base.specs.contracts.number_table.NumberTable.{the_row}

-- once the borrow ends, the table has the last value behind it at the number
abbrev pub LendsValue : (T N : RattleType) → MutBor (NumberMap T.Denot) → ℕ → MutBor T.Denot → Fml
LendsValue T N table number value = Lends (the_row T N) T table value (λ last. insert table.now number last)
