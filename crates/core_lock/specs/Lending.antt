-- What a turn is once a borrow of its value is over.
use Rattle.std.specs.Borrow.{Lends, MutBor, Fml}
use denote.RattleType.{RattleType}
use Rattle.core_lock.specs.declared.pass.Turn.{Turn}
use Rattle.core_lock.specs.contracts.pass.Turn.{the_row}
use Rattle.core_lock.specs.contracts.held.Held as Held
use Rattle.core_lock.specs.Passes.{with_value}

-- the turn ends with the last value behind r
abbrev pub LendsValue : (T E G : RattleType) → MutBor (Turn T.Denot E.Denot G.Denot) → MutBor T.Denot → Fml
LendsValue T E G turn r = Lends (the_row T E G) T turn r (with_value turn.now)

-- what is held ends as the last value behind r
abbrev pub LendsHeld : (T : RattleType) → MutBor T.Denot → MutBor T.Denot → Fml
LendsHeld T held r = Lends (Held.the_row T) T held r (λ w. w)
