use Rattle.std.proofs.Common.{ℕ, [], ◌∷◌, ◌++◌, refl, ap, subst}
use Rattle.std.specs.Option.{option_copied}
use Rattle.base.specs.NumberMap.{insert}
use Rattle.kernel_model.specs.Kernel.{Waits}
use Rattle.own_model.specs.Solo.{Solo, counted, fresh_call}
use Rattle.rpc_cont.specs.Conts.{kept_params}
use Rattle.solo.proofs.Coming.{line_grows, line_same, next_is}
use Rattle.solo.proofs.Stepped.{on_err_always}
use Rattle.solo.specs.Standing.{StandsFor}
use Rattle.solo.proofs.solo_session.SoloSession.wait.Goals as goal

pub returns-in_err-reserve-clause-err : goal.returns-in_err-reserve-clause-err
returns-in_err-reserve-clause-err c solo stands =
    on_err_always _ _ (line_same c.args.self.now _ solo refl c.reserve.ensures.items stands)

pub returns-in_err-call-clause-err : goal.returns-in_err-call-clause-err
returns-in_err-call-clause-err c solo stands =
    on_err_always _ _ (line_same c.args.self.now _ solo refl c.reserve.ensures.items stands)

pub returns-in_err-come_in-clause-err : goal.returns-in_err-come_in-clause-err
returns-in_err-come_in-clause-err c solo stands =
    on_err_always _ _ (c.in_err-come_in.ensures.err solo (line_same c.args.self.now _ solo refl c.reserve.ensures.items stands))

pub returns-clause-ok : goal.returns-clause-ok
returns-clause-ok c solo stands =
    let s = c.args.self.now in
    let call = fresh_call c.args.entering.kind c.args.entering.area (Waits (kept_params (option_copied c.args.params))) in
    let with_it : Solo = record (counted solo) { calls = insert solo.calls solo.entered call } in
    let number = c.next_number-number.result in
    let next = next_is s solo number c.next_number-number.ensures stands in
    subst (StandsFor _) (ap (λ (n : ℕ). record with_it { waiting = solo.waiting ++ n ∷ [] }) next)
    (line_grows c.come_in.new.self _ with_it number refl c.push_reserved.ensures.items
    (c.in_ok-come_in.ensures.ok solo call (line_same s _ solo refl c.reserve.ensures.items stands) c.in_ok-call.ensures.call))
