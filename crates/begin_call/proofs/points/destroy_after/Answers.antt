use Rattle.kernel_state.specs.Setup.{application_of}
use Rattle.begin_call.proofs.Destroying.{asked_else, asked_then}
use Rattle.begin_call.proofs.points.destroy_after.Goals as goal

pub returns-then-users-eq0 : goal.returns-then-users-eq0
returns-then-users-eq0 c =
    asked_then (application_of c.args.app.now) c.args.sessions.now.kept c.args.instance c.users.result.opened c.keeps_alive.result
    c.users.ensures.opened c.if-users-eq0.true c.keeps_alive.ensures

pub returns-else-users-eq0 : goal.returns-else-users-eq0
returns-else-users-eq0 c =
    asked_else (application_of c.args.app.now) c.args.sessions.now.kept c.args.instance c.users.result.opened c.users.ensures.opened c.if-users-eq0.false
