use Rattle.std.proofs.Common.{◌≡◌, ◌∙◌, ℕ, List, None, true, false, sym, ap, subst}
use Rattle.std.specs.Prelude.{is_some}
use Rattle.own_model.specs.Own.{ended}
use Rattle.rpc_cont.specs.Conts.{kept_params}
use Rattle.rpc_cont.specs.declared.cont.Cont.{Cont}
use Rattle.solo.proofs.Leaving.{frees_so, told_so}
use Rattle.solo.specs.Short.{AreShort}
use Rattle.solo.proofs.solo_session.SoloSession.leave.Goals as goal

pub returns-then-has_buffer-clause-leaves : goal.returns-then-has_buffer-clause-leaves
returns-then-has_buffer-clause-leaves c longest solo next own told ends holds aside is at short e =
    let cont = c.args.call.value in
    let has : is_some cont.buffer ≡ true =
    ap (λ (k : Cont (List ℕ)). is_some k.buffer) (sym c.deref.ensures) ∙ sym c.is_some-has_buffer.ensures ∙ c.if-has_buffer.true in
    frees_so c.args.self.now c.put.new.self solo next c.args.number cont _ own told (ended ends.result ends.params) aside is has
    (ap (λ (k : Cont (List ℕ)). record k { buffer = None }) c.deref_mut.ensures.value) e c.put.ensures.stays c.put.ensures.after

pub returns-else-has_buffer-clause-leaves : goal.returns-else-has_buffer-clause-leaves
returns-else-has_buffer-clause-leaves c longest solo next own told ends holds aside is at short e =
    let cont = c.args.call.value in
    let none : is_some cont.buffer ≡ false =
    ap (λ (k : Cont (List ℕ)). is_some k.buffer) (sym c.deref.ensures) ∙ sym c.is_some-has_buffer.ensures ∙ c.if-has_buffer.false in
    told_so longest c.args.self.now solo next c.args.number cont own told ends c.ended.result aside is at short none
    (λ small.
    c.ended.ensures longest holds (subst (λ (k : Cont (List ℕ)). AreShort longest (kept_params k.params)) (sym c.deref-else-has_buffer-2.ensures) small)
    ∙ ap (λ (k : Cont (List ℕ)). ended k.result (kept_params c.deref-else-has_buffer-2.result.now.params)) c.deref-else-has_buffer.ensures
    ∙ ap (λ (k : Cont (List ℕ)). ended cont.result (kept_params k.params)) c.deref-else-has_buffer-2.ensures)
    e
