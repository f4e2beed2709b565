use Rattle.kernel_state.specs.Setup.{application_of}
use Rattle.begin_call.proofs.Destroying.{alone_else, alone_then}
use Rattle.begin_call.proofs.points.destroy_of.Goals as goal

pub returns-then-users-own : goal.returns-then-users-own
returns-then-users-own c boot uuid =
    alone_then boot uuid (application_of c.args.app.now) c.args.sessions.now.kept c.args.number c.args.session c.users.result.opened c.from-own.result c.keeps_alive.result
    c.requires.rising c.requires.kept c.users.ensures.opened c.from-own.ensures c.if-users-own.true c.keeps_alive.ensures

pub returns-else-users-own : goal.returns-else-users-own
returns-else-users-own c boot uuid =
    alone_else boot uuid (application_of c.args.app.now) c.args.sessions.now.kept c.args.number c.args.session c.users.result.opened c.from-own.result
    c.requires.rising c.requires.kept c.users.ensures.opened c.from-own.ensures c.if-users-own.false
