use Rattle.std.proofs.Common.{sym, subst, ◌∙◌}
use Rattle.solo.proofs.Adding.{on_ok}
use Rattle.solo.proofs.Coming.{not_copied}
use Rattle.group_solo.proofs.OpenTests.{IsTested, at_copied, at_dead, at_faulty, at_limit, at_taken, passed}
use Rattle.group_solo.specs.Coming.{opener_of}
use Rattle.group_solo.specs.Standing.{StandsFor, app_in}
use Rattle.group_solo.proofs.group.GroupSolo.test_and_open.Goals as goal

pub returns-then-is_dead-clause-ok : goal.returns-then-is_dead-clause-ok
returns-then-is_dead-clause-ok c g next stands numbered e =
    let its : IsTested c.args.self.now g next c.args.input.now (opener_of c.args.opener) c.args.limited = record { beside = stands.beside; is = e } in
    on_ok c.settle.result _ _
    (λ then_stands. subst (StandsFor c.settle.new.self) (at_dead _ g next _ _ _ its (sym c.is_dead.ensures ∙ c.if-is_dead.true)) then_stands)
    (c.settle.ensures.ok g stands)

pub returns-then-is_taken-clause-ok : goal.returns-then-is_taken-clause-ok
returns-then-is_taken-clause-ok c g next stands numbered e =
    let its : IsTested c.args.self.now g next c.args.input.now (opener_of c.args.opener) c.args.limited = record { beside = stands.beside; is = e } in
    on_ok c.settle-then-is_taken.result _ _
    (λ then_stands. subst (StandsFor c.settle-then-is_taken.new.self)
    (at_taken _ g next _ _ _ its (sym c.is_dead.ensures ∙ c.if-is_dead.false) (sym c.is_taken.ensures ∙ c.if-is_taken.true)) then_stands)
    (c.settle-then-is_taken.ensures.ok g stands)

pub returns-then-limited-clause-ok : goal.returns-then-limited-clause-ok
returns-then-limited-clause-ok c g next stands numbered e =
    let its : IsTested c.args.self.now g next c.args.input.now (opener_of c.args.opener) c.args.limited = record { beside = stands.beside; is = e } in
    on_ok c.settle-then-limited.result _ _
    (λ then_stands. subst (StandsFor c.settle-then-limited.new.self)
    (at_limit _ g next _ _ _ its (sym c.is_dead.ensures ∙ c.if-is_dead.false) (sym c.is_taken.ensures ∙ c.if-is_taken.false) c.if-limited.true) then_stands)
    (c.settle-then-limited.ensures.ok g stands)

pub returns-in-Copied-clause-ok : goal.returns-in-Copied-clause-ok
returns-in-Copied-clause-ok c g next stands numbered e =
    let its : IsTested c.args.self.now g next c.args.input.now (opener_of c.args.opener) c.args.limited = record { beside = stands.beside; is = e } in
    let last = passed _ g next _ _ _ its (sym c.is_dead.ensures ∙ c.if-is_dead.false) (sym c.is_taken.ensures ∙ c.if-is_taken.false) c.if-limited.false in
    on_ok c.open.result _ _
    (λ then_stands. subst (StandsFor c.open.new.self) (at_copied (app_in c.args.self.now) g next c.args.input.now _ c.in-Copied.params c.in-Copied.is last) then_stands)
    (c.open.ensures.ok g stands numbered)

pub returns-in-Faulty-clause-ok : goal.returns-in-Faulty-clause-ok
returns-in-Faulty-clause-ok c g next stands numbered e =
    let its : IsTested c.args.self.now g next c.args.input.now (opener_of c.args.opener) c.args.limited = record { beside = stands.beside; is = e } in
    let last = passed _ g next _ _ _ its (sym c.is_dead.ensures ∙ c.if-is_dead.false) (sym c.is_taken.ensures ∙ c.if-is_taken.false) c.if-limited.false in
    on_ok c.settle-in-Faulty.result _ _
    (λ then_stands. subst (StandsFor c.settle-in-Faulty.new.self) (at_faulty (app_in c.args.self.now) g next c.args.input.now _ (not_copied c.args.input.now c.in-Faulty.is) last) then_stands)
    (c.settle-in-Faulty.ensures.ok g stands)
