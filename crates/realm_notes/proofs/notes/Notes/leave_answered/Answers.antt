use Rattle.std.proofs.Common.{ℕ, ◌<◌, Bool, Some, false, length, get_or, refl, ap, sym, ◌∙◌, rules}
use Rattle.std.proofs.lemmas.Option.{slice_get-get_or}
use Rattle.std.specs.Prelude.{slice_set}
use Rattle.realm_notes.proofs.NotesKept.{limit_noted, no_limit_noted}
use Rattle.realm_notes.proofs.notes.Notes.leave_answered.Goals as goal

pub returns-in_ok-list-clause-noted : goal.returns-in_ok-list-clause-noted
returns-in_ok-list-clause-noted c notes are =
    let old = c.args.self.now in
    let stays = c.in_ok-list.ensures.stays in
    let below : c.args.cpu < length old.turned_away = search rules in
    limit_noted old _ notes are c.args.cpu c.requires below
    (slice_get-get_or old.turned_away c.args.cpu false below
    ∙ ap (λ (b : Bool). Some b) (ap (λ (n : ℕ). get_or old.turned_away n false) (sym c.from.ensures) ∙ c.if-self-from.true))
    _ stays (ap (λ (n : ℕ). slice_set old.turned_away n false) c.from-then-self-from.ensures)
    (rw (c.in_ok-event.ensures, c.in_ok-reply.ensures) at c.in_ok-list.ensures.log)

pub returns-else-self-from-clause-noted : goal.returns-else-self-from-clause-noted
returns-else-self-from-clause-noted c notes are =
    let old = c.args.self.now in
    let below : c.args.cpu < length old.turned_away = search rules in
    no_limit_noted old _ notes are c.args.cpu c.requires
    (slice_get-get_or old.turned_away c.args.cpu false below
    ∙ ap (λ (b : Bool). Some b) (ap (λ (n : ℕ). get_or old.turned_away n false) (sym c.from.ensures) ∙ c.if-self-from.false)) refl
