use Rattle.std.proofs.Common.{◌<◌, ◌^◌, List, length, subst}
use Rattle.event_journal.specs.declared.event.Event.{Event}
use Rattle.instance_groups.proofs.FedAlong.{fed_so}
use Rattle.instance_groups.proofs.Logs.{events_are}
use Rattle.kernel_model.specs.Application.{booted}
use Rattle.native_tas.specs.Table.{entries}
use Rattle.instance_groups.proofs.group.group_events.Goals as goal

pub returns-clause-events : goal.returns-clause-events
returns-clause-events g c =
    events_are c.events_in.result _ _ (booted c.args.boot.now (entries c.args.natives.now)) c.args.journal.now.events c.args.uuid
    c.in_ok-log.ensures.entries c.events_in.ensures

pub returns-clause-feeds : goal.returns-clause-feeds
returns-clause-feeds g c app shared =
    fed_so c.events_in.result _ (booted c.args.boot.now (entries c.args.natives.now)) c.args.journal.now.events c.args.uuid app
    c.requires shared
    (subst (λ (events : List Event). length events < 2 ^ 64) c.as_slice-events.ensures c.as_slice-events.type_inv.0)
    (returns-clause-events g c)
