use Rattle.std.proofs.Common.{◌≡◌, ℕ, Option, ap, sym, subst, ◌∙◌}
use Rattle.own_model.specs.Own as own
use Rattle.realm_notes.proofs.NotesKept.{logged_aside, out_noted}
use Rattle.realm_notes.specs.Noted.{with_told}
use Rattle.realm_notes.specs.Numbers.{AreNumbers}
use Rattle.realm_notes.specs.Realms.{realm_of}
use Rattle.realm_notes.specs.Telling.{reply_of_call, wake_as}
use Rattle.realm_notes.specs.declared.notes.Notes.{Notes as AnyNotes}
use Rattle.realm_notes.specs.declared.numbering.Numbering.{Numbering as AnyNumbering}
use Rattle.realm_notes.proofs.notes.Notes.suspend.Goals as goal

pub returns-clause-noted : goal.returns-clause-noted
returns-clause-noted c notes call are is =
    let old = c.args.self.now in
    let stays = c.tell.ensures.stays in
    let aside = logged_aside old _ stays in
    let woken : c.wake_kept-woken.result ≡ own.wake_kept notes.numbering c.args.slot (wake_as c.args.cont.now) =
    c.wake_kept-woken.ensures notes.numbering are.numbering ∙ ap (own.wake_kept notes.numbering c.args.slot) c.wake_of-wake.ensures in
    out_noted old _ notes are (realm_of old.realm) c.args.slot c.args.number call c.args.cont.now is
    (subst (λ (w : Option ℕ). AreNumbers c.with_wake.new.self (own.with_wake notes.numbering c.args.slot w)) woken
    (c.with_wake.ensures notes.numbering
    (subst (λ (n : AnyNumbering). AreNumbers n notes.numbering) (sym (ap (λ (n : AnyNotes). n.numbering) stays)) are.numbering)))
    (c.in_ok-tell.ensures.log
    ∙ ap (with_told old.log.items c.args.number) (c.in_ok-told.ensures ∙ ap (reply_of_call c.args.cont.now) woken))
    (record { uuid = aside.uuid; sessions = aside.sessions; next_session = aside.next_session; turned_away = aside.turned_away })
