use Rattle.std.proofs.Common.{◌≡◌, ℕ, Some, sym, subst}
use Rattle.std.specs.Option.{option_and_then}
use Rattle.group_model.specs.Group.{home, invokes}
use Rattle.solo.proofs.Adding.{on_ok}
use Rattle.group_solo.proofs.Keeping.{valid_when_kept}
use Rattle.group_solo.proofs.Stepped.{came_back, cancelled, closed, found_room, invoked, opened, saw}
use Rattle.group_solo.specs.Standing.{StandsFor, app_in}
use Rattle.group_solo.proofs.group.GroupSolo.step_silently.Goals as goal

pub test_and_open-requires-clause-valid : goal.test_and_open-requires-clause-valid
test_and_open-requires-clause-valid c = valid_when_kept c.args.self.now c.requires.some

pub invoke-requires-clause-valid : goal.invoke-requires-clause-valid
invoke-requires-clause-valid c = valid_when_kept c.args.self.now c.requires.some

pub close-requires-clause-valid : goal.close-requires-clause-valid
close-requires-clause-valid c = valid_when_kept c.args.self.now c.requires.some

pub returns-in-Open-clause-ok : goal.returns-in-Open-clause-ok
returns-in-Open-clause-ok c most g next told is silent e =
    let o = opened most (app_in c.args.self.now) g next c.args.event.now c.in-Open.input c.in-Open.login c.in-Open.limited c.in-Open.area told c.in-Open.is e in
    on_ok c.test_and_open.result _ _ (λ stands. (o.1, stands)) (c.test_and_open.ensures.ok g next is.stands is.numbered o.0)

pub returns-in-Invoke-clause-ok : goal.returns-in-Invoke-clause-ok
returns-in-Invoke-clause-ok c most g next told is silent e =
    let o = invoked most (app_in c.args.self.now) g next c.args.event.now c.in-Invoke.session c.in-Invoke.func c.in-Invoke.input c.in-Invoke.area told c.in-Invoke.is e in
    on_ok c.invoke.result _ _ (λ stands. (o.1, stands)) (c.invoke.ensures.ok g next is.stands
    (subst (λ (n : ℕ). option_and_then (invokes (app_in c.args.self.now) g c.in-Invoke.func c.in-Invoke.input c.in-Invoke.area) (home g n) ≡ Some next)
    (sym c.from.ensures) o.0))

pub returns-in-Close-clause-ok : goal.returns-in-Close-clause-ok
returns-in-Close-clause-ok c most g next told is silent e =
    let o = closed most (app_in c.args.self.now) g next c.args.event.now c.in-Close.session c.in-Close.area told c.in-Close.is e in
    on_ok c.close.result _ _ (λ stands. (o.1.1.1, subst (StandsFor c.close.new.self) o.1.1.0 stands)) (c.close.ensures.ok g o.0 is.stands (subst (λ (n : ℕ). home g n ≡ Some o.0) (sym c.from-in-Close.ensures) o.1.0))

pub returns-in-Cancel-clause-ok : goal.returns-in-Cancel-clause-ok
returns-in-Cancel-clause-ok c most g next told is silent e =
    let o = cancelled most (app_in c.args.self.now) g next c.args.event.now _ told c.in-Cancel.is e in
    on_ok c.settle.result _ _ (λ stands. (o.1, subst (StandsFor c.settle.new.self) o.0 stands)) (c.settle.ensures.ok g is.stands)

pub returns-in-Seen-clause-ok : goal.returns-in-Seen-clause-ok
returns-in-Seen-clause-ok c most g next told is silent e =
    let o = saw most (app_in c.args.self.now) g next c.args.event.now c.in-Seen.call c.in-Seen.steps told c.in-Seen.is e in
    (o.silent_so, c.see.ensures.sees g next o.call is.stands o.there o.does_so)

pub returns-in-Room-clause-ok : goal.returns-in-Room-clause-ok
returns-in-Room-clause-ok c most g next told is silent e =
    let o = found_room most (app_in c.args.self.now) g next c.args.event.now c.in-Room.call c.in-Room.enough told c.in-Room.is e in
    (o.silent_so, c.tell_room.ensures.finds g next o.call is.stands o.there o.does_so)

pub returns-in-Back-clause-ok : goal.returns-in-Back-clause-ok
returns-in-Back-clause-ok c most g next told is silent e =
    let o = came_back most (app_in c.args.self.now) g next c.args.event.now c.in-Back.call c.in-Back.input told c.in-Back.is e in
    on_ok c.come_back.result _ _ (λ stands. (o.silent_so, stands)) (c.come_back.ensures.ok g next o.call is.stands o.there o.does_so)
