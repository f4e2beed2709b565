use Rattle.std.proofs.Common.{◌+◌, ap, sym, subst, ◌∙◌}
use Rattle.std.specs.Option.{option_or}
use Rattle.base.specs.NumberMap.{insert}
use Rattle.realm_notes.proofs.NotesKept.{call_listed, open_listed}
use Rattle.realm_notes.specs.Numbers.{AreNumbers}
use Rattle.realm_notes.specs.declared.notes.Notes.{Notes}
use Rattle.realm_notes.specs.declared.numbering.Numbering.{Numbering}
use Rattle.realm_notes.proofs.notes.Notes.enter.Goals.{then-gets+in_ok-add_session, else-gets}
use Rattle.realm_notes.proofs.notes.Notes.enter.Goals as goal

pub returns-clause-noted : goal.returns-clause-noted
returns-clause-noted c notes are =
    let lists = c.in_ok-list.ensures.stays in
    let uuid = c.or-self.ensures ∙ ap (option_or c.args.came.opens) (ap (λ (n : Notes). n.uuid) lists) in
    elim c.if-gets.branch [
      | then-gets+in_ok-add_session w ↦
          (let adds = w.in_ok-add_session.ensures.stays in
          let numbering = ap (λ (n : Notes). n.numbering) w.self-is ∙ ap (λ (n : Notes). n.numbering) adds
          ∙ ap (λ (n : Notes). n.numbering) lists in
          open_listed c.args.self.now _ notes are c.args.slot c.args.session c.args.came w.if-gets.true
          (c.next_in.ensures notes.numbering (subst (λ (n : Numbering). AreNumbers n notes.numbering) (sym numbering) are.numbering))
          (ap (λ (n : Notes). n.uuid) w.self-is ∙ ap (λ (n : Notes). n.uuid) adds ∙ uuid)
          (ap (λ (n : Notes). n.turned_away) w.self-is ∙ ap (λ (n : Notes). n.turned_away) adds ∙ ap (λ (n : Notes). n.turned_away) lists)
          (ap (λ (n : Notes). n.sessions.entries) w.self-is ∙ w.in_ok-add_session.ensures.sessions
          ∙ ap (λ (n : Notes). insert n.sessions.entries c.args.session n.next_session) lists)
          (ap (λ (n : Notes). n.next_session) w.self-is ∙ w.in_ok-add_session.ensures.next ∙ ap (λ (n : Notes). n.next_session + 1) lists)
          (ap (λ (n : Notes). n.log.items) w.self-is ∙ ap (λ (n : Notes). n.log.items) adds ∙ c.in_ok-list.ensures.log))
      | else-gets w ↦
          (let numbering = ap (λ (n : Notes). n.numbering) w.self-is ∙ ap (λ (n : Notes). n.numbering) lists in
          call_listed c.args.self.now _ notes are c.args.slot c.args.session c.args.came w.if-gets.false
          (c.next_in.ensures notes.numbering (subst (λ (n : Numbering). AreNumbers n notes.numbering) (sym numbering) are.numbering))
          (ap (λ (n : Notes). n.uuid) w.self-is ∙ uuid)
          (ap (λ (n : Notes). n.turned_away) w.self-is ∙ ap (λ (n : Notes). n.turned_away) lists)
          (ap (λ (n : Notes). n.sessions.entries) w.self-is ∙ ap (λ (n : Notes). n.sessions.entries) lists)
          (ap (λ (n : Notes). n.next_session) w.self-is ∙ ap (λ (n : Notes). n.next_session) lists)
          (ap (λ (n : Notes). n.log.items) w.self-is ∙ c.in_ok-list.ensures.log))
    ]
