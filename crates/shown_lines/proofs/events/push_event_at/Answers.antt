use Rattle.std.proofs.Common.{sym, arith}
use Rattle.shown_lines.proofs.Texts.{event_read}
use Rattle.shown_lines.proofs.events.push_event_at.Goals as goal

pub push_event-requires : goal.push_event-requires
push_event-requires c =
    let read = event_read c.args.journal.now.events c.args.at c.in-Some.event.now (sym c.in-Some.ensures.event) in
    omega (arith, read, c.copied-all.ensures, c.copied-all.type_inv)
