use Rattle.std.proofs.Common.{◌∙◌, Bool, Some, sym, ap, subst}
use Rattle.std.specs.Prelude.{is_some}
use Rattle.group_model.specs.Group.{plain}
use Rattle.group_model.specs.declared.group_reply.GroupReply.{GroupReply}
use Rattle.kernel_state.specs.Calls.{IsInPhase}
use Rattle.solo.specs.GoingOut.{placed_or_alloc}
use Rattle.solo.specs.Short.{IsShortPhase}
use Rattle.group_solo.proofs.Leaving.{asks_out, leaves_out, put_same}
use Rattle.group_solo.specs.declared.kept_call.KeptCall.{KeptCall}
use Rattle.own_model.specs.declared.own_reply.OwnReply.{OwnReply}
use Rattle.group_solo.proofs.group.GroupSolo.answer.Goals as goal

pub returns-in-Some-clause-answers : goal.returns-in-Some-clause-answers
returns-in-Some-clause-answers c longest g next own told holds aside small is short e =
    let here : IsInPhase c.deref.result.now.cont own.phase = subst (λ (k : KeptCall). IsInPhase k.cont own.phase) (sym c.deref.ensures) is.alone.phase in
    let so = asks_out g next c.args.number own told own.phase c.in-Some.asked (c.in-Some.ensures own.phase here) e in (
      ap (λ (r : GroupReply). Some r) c.plain.ensures
          ∙ ap (λ (r : OwnReply). Some (plain r)) c.placed_or_alloc-told.ensures
          ∙ ap (λ (b : Bool). Some (plain (placed_or_alloc b c.is_some-has_buffer.result c.in-Some.asked)))
          (c.is_some-has_area.ensures ∙ ap (λ (k : KeptCall). is_some k.cont.area) c.deref-in-Some.ensures ∙ is.alone.area)
          ∙ ap (λ (b : Bool). Some (plain (placed_or_alloc own.area b c.in-Some.asked)))
          (c.is_some-has_buffer.ensures ∙ ap (λ (k : KeptCall). is_some k.cont.buffer) c.deref-in-Some-2.ensures ∙ is.alone.buffer)
          ∙ so.1,
      put_same c.args.self.now c.put.new.self g next c.args.number c.args.call own aside is so.0 c.put.ensures.stays c.put.ensures.after,
    )

pub returns-in-None-clause-answers : goal.returns-in-None-clause-answers
returns-in-None-clause-answers c longest g next own told holds aside small is short e =
    let here : IsInPhase c.deref.result.now.cont own.phase = subst (λ (k : KeptCall). IsInPhase k.cont own.phase) (sym c.deref.ensures) is.alone.phase in
    let left = leaves_out g next c.args.number own told own.phase (c.in-None.ensures own.phase here) e in
    c.leave.ensures.leaves longest g next own told left.ends holds aside small is left.is (subst (IsShortPhase longest) left.is short) left.goes
