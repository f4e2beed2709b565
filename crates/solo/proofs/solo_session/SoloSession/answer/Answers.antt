use Rattle.std.proofs.Common.{◌∙◌, ℕ, Bool, List, Some, sym, ap, subst}
use Rattle.std.specs.Prelude.{is_some}
use Rattle.kernel_state.specs.Calls.{IsInPhase}
use Rattle.own_model.specs.declared.own_reply.OwnReply.{OwnReply}
use Rattle.rpc_cont.specs.declared.cont.Cont.{Cont}
use Rattle.solo.proofs.Leaving.{asks_out, leaves_out, put_same}
use Rattle.solo.specs.GoingOut.{placed_or_alloc}
use Rattle.solo.specs.Short.{IsShortPhase}
use Rattle.solo.proofs.solo_session.SoloSession.answer.Goals as goal

pub returns-in-Some-clause-answers : goal.returns-in-Some-clause-answers
returns-in-Some-clause-answers c longest solo next own told holds aside is short e =
    let cont = c.args.call.value in
    let here : IsInPhase c.deref.result.now own.phase = subst (λ (k : Cont (List ℕ)). IsInPhase k own.phase) (sym c.deref.ensures) is.phase in
    let so = asks_out solo next c.args.number own told own.phase c.in-Some.asked (c.in-Some.ensures own.phase here) e in (
      ap (λ (r : OwnReply). Some r) c.placed_or_alloc-told.ensures
          ∙ ap (λ (b : Bool). Some (placed_or_alloc b c.is_some-has_buffer.result c.in-Some.asked))
          (c.is_some-has_area.ensures ∙ ap (λ (k : Cont (List ℕ)). is_some k.area) c.deref-in-Some.ensures ∙ is.area)
          ∙ ap (λ (b : Bool). Some (placed_or_alloc own.area b c.in-Some.asked))
          (c.is_some-has_buffer.ensures ∙ ap (λ (k : Cont (List ℕ)). is_some k.buffer) c.deref-in-Some-2.ensures ∙ is.buffer)
          ∙ so.1,
      put_same c.args.self.now c.put.new.self solo next c.args.number c.args.call own aside is so.0 c.put.ensures.stays c.put.ensures.after,
    )

pub returns-in-None-clause-answers : goal.returns-in-None-clause-answers
returns-in-None-clause-answers c longest solo next own told holds aside is short e =
    let here : IsInPhase c.deref.result.now own.phase = subst (λ (k : Cont (List ℕ)). IsInPhase k own.phase) (sym c.deref.ensures) is.phase in
    let left = leaves_out solo next c.args.number own told own.phase (c.in-None.ensures own.phase here) e in
    c.leave.ensures.leaves longest solo next own told left.ends holds aside is left.is (subst (IsShortPhase longest) left.is short) left.goes
