use Rattle.std.proofs.Common.{◌+◌, drop, subst}
use Rattle.core_cases.proofs.Front.{front}
use Rattle.core_cases.proofs.feeding.feed.Goals as goal

pub take-requires : goal.take-requires
take-requires g c =
    let events = c.args.events.now in
    let i = c.loop-event.event-index in (
      drop (i + 1) events,
      subst (g.M.EventMachine.IsFed c.loop-event.machine) (front events i c.event-item.result c.loop-event-test.true c.event-item.is)
          c.loop-event.invariant,
    )

pub loop-event-preserved : goal.loop-event-preserved
loop-event-preserved g c =
    let events = c.args.events.now in
    let i = c.loop-event.event-index in
    c.in_ok-take.ensures (drop (i + 1) events)
    (subst (g.M.EventMachine.IsFed c.loop-event.machine) (front events i c.event-item.result c.loop-event-test.true c.event-item.is)
    c.loop-event.invariant)
