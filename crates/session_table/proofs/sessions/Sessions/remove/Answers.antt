use Rattle.std.proofs.Common.{◌+◌}
use Rattle.session_table.proofs.Given.{given_after_remove}
use Rattle.session_table.proofs.sessions.Sessions.remove.Goals as goal

pub invariant_of-self : goal.invariant_of-self
invariant_of-self c = rw c.remove.ensures.after (given_after_remove c.self.inside.kept (c.self.inside.given + 1) c.from.result c.self.invariant)
