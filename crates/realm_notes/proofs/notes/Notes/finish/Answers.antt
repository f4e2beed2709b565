use Rattle.std.proofs.Common.{ap, sym, subst}
use Rattle.realm_notes.proofs.NotesKept.{finished_noted, logged_aside}
use Rattle.realm_notes.specs.Numbers.{AreNumbers}
use Rattle.realm_notes.specs.Realms.{realm_of}
use Rattle.realm_notes.specs.declared.notes.Notes.{Notes}
use Rattle.realm_notes.specs.declared.numbering.Numbering.{Numbering}
use Rattle.realm_notes.proofs.notes.Notes.finish.Goals as goal

pub returns-clause-noted : goal.returns-clause-noted
returns-clause-noted c notes call are is =
    let old = c.args.self.now in
    let stays = c.in_ok-list.ensures.stays in
    let aside = logged_aside old _ stays in
    finished_noted old _ notes are (realm_of old.realm) c.args.slot c.args.number call c.args.ended is
    (c.forget.ensures notes.numbering
    (subst (λ (n : Numbering). AreNumbers n notes.numbering) (sym (ap (λ (n : Notes). n.numbering) stays)) are.numbering))
    (rw c.in_ok-event.ensures at c.in_ok-list.ensures.log)
    (record { uuid = aside.uuid; sessions = aside.sessions; next_session = aside.next_session; turned_away = aside.turned_away })
