use Rattle.std.proofs.Common.{◌<◌, ◌^◌, length, subst}
use Rattle.event_journal.specs.declared.event.Event.{Event}
use Rattle.std.proofs.Common.{List}
use Rattle.isolation.proofs.FedAlong.{fed_so}
use Rattle.kernel_model.specs.Application.{booted}
use Rattle.native_tas.specs.Table.{entries}
use Rattle.isolation.proofs.own.own_events.Goals as goal

pub returns-clause-feeds : goal.returns-clause-feeds
returns-clause-feeds g c app is =
    fed_so c.events_in.result (λ events. events.items) _ (booted c.args.boot.now (entries c.args.natives.now)) c.args.journal.now.events
    c.args.session app c.in_ok-log.ensures.entries is c.requires.few
    (subst (λ (events : List Event). length events < 2 ^ 64) c.as_slice-events.ensures c.as_slice-events.type_inv.0) c.events_in.ensures
