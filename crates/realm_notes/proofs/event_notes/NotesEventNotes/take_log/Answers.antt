use Rattle.realm_notes.proofs.ReadOn.{has_taken}
use Rattle.realm_notes.proofs.event_notes.NotesEventNotes.take_log.Goals as goal

pub returns : goal.returns
returns c old new before event goes is_noted realm =
    has_taken old new before c.args.self.now c.take_list.new.self event c.take_list.result.items goes is_noted realm c.take_list.ensures.stays
    c.take_list.ensures.taken c.take_list.ensures.log
