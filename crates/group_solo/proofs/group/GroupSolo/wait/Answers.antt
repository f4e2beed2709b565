use Rattle.std.proofs.Common.{ℕ, refl, subst}
use Rattle.std.specs.Option.{option_copied}
use Rattle.group_model.specs.Group.{fresh_call}
use Rattle.kernel_model.specs.Kernel.{Waits}
use Rattle.rpc_cont.specs.Conts.{kept_params}
use Rattle.solo.proofs.Stepped.{on_err_always}
use Rattle.group_solo.proofs.Adding.{line_reserved, next_is, reserved}
use Rattle.group_solo.specs.Beginning.{with_waiter}
use Rattle.group_solo.specs.Coming.{about_of}
use Rattle.group_solo.specs.Standing.{StandsFor}
use Rattle.group_solo.specs.declared.group.GroupSolo.{GroupSolo}
use Rattle.group_solo.proofs.group.GroupSolo.wait.Goals as goal

pub returns-in_err-reserve-clause-err : goal.returns-in_err-reserve-clause-err
returns-in_err-reserve-clause-err c g stands = on_err_always _ _ (line_reserved c.args.self.now _ g refl c.reserve.ensures.items stands)

pub returns-in_err-reserve-2-clause-err : goal.returns-in_err-reserve-2-clause-err
returns-in_err-reserve-2-clause-err c g stands =
    let lined : GroupSolo = record c.args.self.now { waiting = c.reserve.new.self } in
    on_err_always _ _ (reserved lined _ g refl c.reserve-2.ensures.items (line_reserved c.args.self.now lined g refl c.reserve.ensures.items stands))

pub returns-in_err-call-clause-err : goal.returns-in_err-call-clause-err
returns-in_err-call-clause-err c g stands =
    let lined : GroupSolo = record c.args.self.now { waiting = c.reserve.new.self } in
    on_err_always _ _ (reserved lined _ g refl c.reserve-2.ensures.items (line_reserved c.args.self.now lined g refl c.reserve.ensures.items stands))

pub returns-clause-ok : goal.returns-clause-ok
returns-clause-ok c g stands =
    let s = c.args.self.now in
    let lined : GroupSolo = record s { waiting = c.reserve.new.self } in
    let call = fresh_call (about_of c.args.about) (Waits (kept_params (option_copied c.args.params))) in
    subst (λ (n : ℕ). StandsFor c.wait_last.new.self (with_waiter g (record { call = n; instance = c.args.about.instance }) call))
    (next_is s g c.next_number-number.result c.next_number-number.ensures stands)
    (c.wait_last.ensures.waits g call (reserved lined _ g refl c.reserve-2.ensures.items (line_reserved s lined g refl c.reserve.ensures.items stands)) c.in_ok-call.ensures.call)
