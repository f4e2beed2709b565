use Rattle.realm_notes.specs.Noted.{with_room, with_seen}
use Rattle.realm_notes.proofs.notes.Notes.resume.Goals as goal

pub returns-clause-noted : goal.returns-clause-noted
returns-clause-noted c notes are =
    let seen = with_seen notes c.args.number c.args.came.back.seen in
    c.list_input.ensures.noted (with_room seen c.args.number c.args.came.room)
    (c.in_ok-list_room.ensures.noted seen (c.in_ok-list_seen.ensures.noted notes are))
