use Rattle.live_player.proofs.Staging.{forgotten}
use Rattle.live_player.proofs.stage.Stage.forget.Goals as goal

pub returns-in-Header-clause-at : goal.returns-in-Header-clause-at
returns-in-Header-clause-at c = λ on lines is_open at.
    forgotten on lines c.in-Header.header c.forget.new.self c.forget.ensures (rw c.in-Header.is at at)

pub returns-in-Core-clause-at : goal.returns-in-Core-clause-at
returns-in-Core-clause-at c = λ on lines is_open at. absurd ((rw c.in-Core.is at at).1 is_open)

pub returns-in-Core-clause-terms : goal.returns-in-Core-clause-terms
returns-in-Core-clause-terms c = λ on lines is_open at. absurd ((rw c.in-Core.is at at).1 is_open)
