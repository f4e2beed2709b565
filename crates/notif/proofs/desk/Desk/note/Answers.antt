use Rattle.std.proofs.Common.{◌≡◌, ◌==◌, ◌∙◌, ap, false, lit<, subst, sym}
use Rattle.std.specs.List.{list_any}
use Rattle.notif.specs.Desk.{ArePending, DeskState}
use Rattle.notif.proofs.Pending.{pending_after_note, room_to_note}
use Rattle.notif.proofs.desk.Desk.note.Goals as goal

pub push-requires : goal.push-requires
push-requires c =
    let absent : list_any (λ kept. kept == c.args.value) c.self.inside.pending.items ≡ false =
    ap (λ (desk : DeskState). list_any (λ kept. kept == c.args.value) desk.pending) c.self.view_is ∙ sym c.is_pending.ensures ∙ c.if-not-is_pending.true in
    (lit< tt, room_to_note c.self.inside.pending.items c.args.value c.self.invariant c.requires absent)

pub invariant_of-self : goal.invariant_of-self
invariant_of-self c =
    let absent : list_any (λ kept. kept == c.args.value) c.self.inside.pending.items ≡ false =
    ap (λ (desk : DeskState). list_any (λ kept. kept == c.args.value) desk.pending) c.self.view_is ∙ sym c.is_pending.ensures ∙ c.if-not-is_pending.true in
    subst ArePending (sym c.push.ensures.items) (pending_after_note c.self.inside.pending.items c.args.value c.self.invariant c.requires absent)
