-- What was noted of the event is taken.
use Rattle.std.proofs.Common.{Bool, true, false, List, [], ◌∷◌, ◌++◌, ap, subst, sym, ◌∙◌}
use Rattle.std.specs.Prelude.{Result}
use Rattle.base.specs.declared.no_memory.NoMemory.{NoMemory}
use Rattle.event_journal.specs.declared.event.Event.{Event}
use Rattle.journal_notes.proofs.ReadOn.{as_is, grown_with_room}
use Rattle.journal_notes.specs.Meaning.{Goes}
use Rattle.journal_replay.specs.Replaying.{Does, HasDone}
use Rattle.journal_notes.proofs.reading.read.Goals as goal

pub returns-then-can_be : goal.returns-then-can_be
returns-then-can_be g c =
    let old = c.args.replay.now in
    let new = c.note.new.replay in
    let was = c.in_ok-can_be.was ∙ as_is c.in_ok-can_be.can_be true c.if-can_be.true in
    let done : HasDone old new c.args.event.now = subst (λ (r : Result Bool NoMemory). Does old new c.args.event.now r) was c.note.ensures.does in
    let noted = c.note.ensures.noted was in
    let goes : Goes noted.mid new.at_work.core c.args.event.now = record {
      boot = done.boot ∙ sym noted.room.boot;
      events = done.events ∙ ap (λ (events : List Event). events ++ c.args.event.now ∷ []) (sym noted.room.events);
    } in
    let taken = c.take_log.ensures noted.mid new.at_work.core c.args.notes.now c.args.event.now goes noted.noted c.note.ensures.subject in
    record {
      done = done;
      subject = taken.subject;
      grown = grown_with_room g.N.EventNotes.meaning old.at_work.core noted.mid new.at_work.core c.args.notes.now c.take_log.new.self
          c.take_log.result.items noted.room taken c.requires.on;
    }

pub returns-else-can_be : goal.returns-else-can_be
returns-else-can_be g c =
    subst (λ (r : Result Bool NoMemory). Does c.args.replay.now c.note.new.replay c.args.event.now r)
    (c.in_ok-can_be.was ∙ as_is c.in_ok-can_be.can_be false c.if-can_be.false) c.note.ensures.does
