use Rattle.kernel_state.specs.Meaning.{booted_of}
use Rattle.realm_notes.proofs.Entries.{entry_noted_then}
use Rattle.realm_notes.proofs.FewCalls.{numbers_left}
use Rattle.realm_notes.proofs.event_notes.NotesEventNotes.come_in.Goals as goal

pub note_entry-requires-clause-few : goal.note_entry-requires-clause-few
note_entry-requires-clause-few c = numbers_left c.args.self.now c.requires.kept

pub returns-clause-noted : goal.returns-clause-noted
returns-clause-noted c old lane reads work has_run entered done arrives =
    entry_noted_then old c.args.core.now c.args.visitor lane reads work c.args.arrival c.args.self.now c.note_entry.new.notes entered done
    c.note_entry.result arrives (λ k next notes rs arrived. c.note_entry.ensures.noted (booted_of old) k next notes rs work has_run arrived)
