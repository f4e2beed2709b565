use Rattle.std.proofs.Common.{◌∙◌, refl, sym, ap, subst}
use Rattle.group_model.specs.Group.{GroupCall, fresh_call}
use Rattle.kernel_model.specs.Kernel.{Waits}
use Rattle.solo.proofs.Stepped.{on_err_always}
use Rattle.group_solo.proofs.Adding.{next_is, reserved}
use Rattle.group_solo.specs.Calls.{IsGroupCall}
use Rattle.group_solo.specs.Coming.{about_of}
use Rattle.ta_params.specs.declared.copied_params.CopiedParams.{CopiedParams}
use Rattle.group_solo.proofs.group.GroupSolo.begin_new.Goals as goal

pub returns-in_err-reserve-clause-err : goal.returns-in_err-reserve-clause-err
returns-in_err-reserve-clause-err c g stands = on_err_always _ _ (reserved c.args.self.now _ g refl c.reserve.ensures.items stands)

pub returns-in_err-call-clause-err : goal.returns-in_err-call-clause-err
returns-in_err-call-clause-err c g stands = on_err_always _ _ (reserved c.args.self.now _ g refl c.reserve.ensures.items stands)

pub returns-in_err-ready-clause-err : goal.returns-in_err-ready-clause-err
returns-in_err-ready-clause-err c g stands = on_err_always _ _ (reserved c.args.self.now _ g refl c.reserve.ensures.items stands)

pub returns-clause-ok : goal.returns-clause-ok
returns-clause-ok c g b stands number params call session there =
    let s = c.args.self.now in
    let next = next_is s g c.next_number-number.result c.next_number-number.ensures stands in
    c.begin_last.ensures.begins g b (reserved s _ g refl c.reserve.ensures.items stands) (number ∙ sym next) next
    (subst (IsGroupCall c.in_ok-call.call.value)
    (ap (λ (p : CopiedParams). fresh_call (about_of c.args.about) (Waits p)) (sym params) ∙ sym call) c.in_ok-call.ensures.call)
    (ap (λ (k : GroupCall). k.phase) call) session there
