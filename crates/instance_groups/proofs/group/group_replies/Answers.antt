use Rattle.instance_groups.proofs.FedAlong.{alone_so}
use Rattle.instance_groups.proofs.Logs.{replies_are}
use Rattle.kernel_model.specs.Application.{booted}
use Rattle.native_tas.specs.Table.{entries}
use Rattle.instance_groups.proofs.group.group_replies.Goals as goal

pub returns-clause-replies : goal.returns-clause-replies
returns-clause-replies g c =
    replies_are c.replies_in.result _ _ (booted c.args.boot.now (entries c.args.natives.now)) c.args.journal.now.events c.args.uuid
    c.in_ok-log.ensures.entries c.replies_in.ensures

pub returns-clause-alone : goal.returns-clause-alone
returns-clause-alone g c app shared =
    alone_so c.replies_in.result _ (booted c.args.boot.now (entries c.args.natives.now)) c.args.journal.now.events c.args.uuid app
    c.requires shared (returns-clause-replies g c)
