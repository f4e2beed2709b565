use Rattle.std.proofs.Common.{refl, subst, sym}
use Rattle.event_journal.specs.declared.event.Event.{Event}
use Rattle.journal_notes.specs.Meaning.{IsNoted}
use Rattle.journal_notes.proofs.noting.note.Goals as goal

pub returns-in-Entry-clause-noted : goal.returns-in-Entry-clause-noted
returns-in-Entry-clause-noted g c ok =
    rw (c.in-Entry.is, ← c.as_slice.ensures) (c.come_in.ensures.noted ok)

pub returns-in-Exit-clause-noted : goal.returns-in-Exit-clause-noted
returns-in-Exit-clause-noted g c ok = record {
  mid = c.args.replay.now.at_work.core;
  room = record { boot = refl; terms = refl; events = refl };
  noted = subst (λ (e : Event). IsNoted g.N.EventNotes.meaning c.args.replay.now.at_work.core c.go_out.new.replay.at_work.core c.args.notes.now c.go_out.new.notes e)
      (sym c.in-Exit.is) (c.go_out.ensures.noted ok);
}
