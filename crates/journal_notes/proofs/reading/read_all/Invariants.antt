use Rattle.std.proofs.Common.{◌≡◌, take}
use Rattle.journal_notes.specs.Meaning.{AreOn, log_on, same_subject}
use Rattle.journal_replay.specs.Replaying.{boot_of, done_by}
use Rattle.journal_notes.proofs.reading.read_all.Given as goal

abbrev pub invariant-loop-event : goal.invariant-loop-event
invariant-loop-event g l = record {
  boot : boot_of l.replay ≡ boot_of l.fn.replay;
  done : done_by l.replay ≡ take l.event-index l.events;
  subject : same_subject g.N.EventNotes.meaning l.fn.notes l.notes;
  on : AreOn g.N.EventNotes.meaning l.replay.at_work.core l.notes;
  log : l.log.items ≡ log_on g.N.EventNotes.meaning l.replay.at_work.core l.notes;
}
