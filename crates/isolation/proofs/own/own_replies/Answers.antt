use Rattle.isolation.proofs.OwnLogs.{alone_so}
use Rattle.kernel_model.specs.Application.{booted}
use Rattle.native_tas.specs.Table.{entries}
use Rattle.isolation.proofs.own.own_replies.Goals as goal

pub returns-clause-alone : goal.returns-clause-alone
returns-clause-alone g c app is =
    alone_so c.replies_in.result _ _ (booted c.args.boot.now (entries c.args.natives.now)) c.args.journal.now.events c.args.session app
    c.in_ok-log.ensures.entries is c.replies_in.ensures
