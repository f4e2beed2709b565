use Rattle.live_player.proofs.Staging.{core_added, header_added}
use Rattle.live_player.proofs.stage.Stage.add.Goals as goal

pub returns-in-Header-clause-added : goal.returns-in-Header-clause-added
returns-in-Header-clause-added c = λ on lines placed stands.
    header_added on lines c.args.said c.in-Header.header c.add.new.self c.add.result c.add.ensures.said c.add.ensures.history
    (rw c.in-Header.is at stands)

pub returns-in-Core-clause-added : goal.returns-in-Core-clause-added
returns-in-Core-clause-added c = λ on lines placed stands.
    rw c.in-Core.is (core_added on lines c.args.said c.in-Core.field-0 placed (rw c.in-Core.is at stands))
