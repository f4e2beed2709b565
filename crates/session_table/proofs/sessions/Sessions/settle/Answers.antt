use Rattle.std.proofs.Common.{◌+◌, IsSome, rules}
use Rattle.base.specs.NumberMap.{get}
use Rattle.session_table.proofs.Given.{given_after_settle}
use Rattle.session_table.proofs.sessions.Sessions.settle.Goals as goal

pub invariant_of-self : goal.invariant_of-self
invariant_of-self c =
    let kept : IsSome (get c.self.inside.kept c.from.result) = search rules in
    given_after_settle c.self.inside.kept (c.self.inside.given + 1) c.from.result c.opened_with.result c.self.invariant kept
