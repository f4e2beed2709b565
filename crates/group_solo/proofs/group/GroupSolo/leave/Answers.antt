use Rattle.std.proofs.Common.{◌≡◌, ◌∙◌, ◌<◌, ◌^◌, ℕ, Some, None, true, false, sym, ap, subst}
use Rattle.std.specs.Prelude.{is_some}
use Rattle.group_model.specs.Group.{opened_by}
use Rattle.group_model.specs.declared.group_reply.GroupReply.{GroupReply}
use Rattle.own_model.specs.Own.{ended}
use Rattle.rpc_cont.specs.Conts.{kept_params}
use Rattle.solo.specs.Short.{AreShort}
use Rattle.group_solo.proofs.Leaving.{frees_so, told_so}
use Rattle.group_solo.specs.declared.kept_call.KeptCall.{KeptCall}
use Rattle.group_solo.proofs.group.GroupSolo.leave.Goals as goal

pub returns-then-has_buffer-clause-leaves : goal.returns-then-has_buffer-clause-leaves
returns-then-has_buffer-clause-leaves c longest g next own told ends holds aside small is at short e =
    let kept = c.args.call.value in
    let has : is_some kept.cont.buffer ≡ true =
    ap (λ (k : KeptCall). is_some k.cont.buffer) (sym c.deref.ensures) ∙ sym c.is_some-has_buffer.ensures ∙ c.if-has_buffer.true in
    let freed = frees_so c.args.self.now c.put.new.self g next c.args.number kept _ own told ends aside is has
    (ap (λ (k : KeptCall). record k { cont = record k.cont { buffer = None } }) c.deref_mut.ensures.value) e c.put.ensures.stays c.put.ensures.after in
    (ap (λ (r : GroupReply). Some r) c.plain.ensures ∙ freed.0, freed.1)

pub returns-else-has_buffer-clause-leaves : goal.returns-else-has_buffer-clause-leaves
returns-else-has_buffer-clause-leaves c longest g next own told ends holds aside small is at short e =
    let kept = c.args.call.value in
    let none : is_some kept.cont.buffer ≡ false =
    ap (λ (k : KeptCall). is_some k.cont.buffer) (sym c.deref.ensures) ∙ sym c.is_some-has_buffer.ensures ∙ c.if-has_buffer.false in
    told_so longest c.args.self.now g next c.args.number kept own told ends c.ended.result c.opened_by.result aside is at short none
    (λ few.
    c.ended.ensures longest holds (subst (λ (k : KeptCall). AreShort longest (kept_params k.cont.params)) (sym c.deref-else-has_buffer-5.ensures) few)
    ∙ ap (λ (k : KeptCall). ended k.cont.result (kept_params c.deref-else-has_buffer-5.result.now.cont.params)) c.deref-else-has_buffer-4.ensures
    ∙ ap (λ (k : KeptCall). ended kept.cont.result (kept_params k.cont.params)) c.deref-else-has_buffer-5.ensures)
    (c.opened_by.ensures (subst (λ (n : ℕ). n < 2 ^ 32) (sym is.session ∙ sym (ap (λ (k : KeptCall). k.session) c.deref-else-has_buffer-2.ensures)) small)
    ∙ ap (λ (k : KeptCall). opened_by k.cont.kind c.deref-else-has_buffer-2.result.now.session c.deref-else-has_buffer-3.result.now.cont.result) c.deref-else-has_buffer.ensures
    ∙ ap (λ (k : KeptCall). opened_by kept.cont.kind k.session c.deref-else-has_buffer-3.result.now.cont.result) c.deref-else-has_buffer-2.ensures
    ∙ ap (λ (k : KeptCall). opened_by kept.cont.kind kept.session k.cont.result) c.deref-else-has_buffer-3.ensures)
    e
