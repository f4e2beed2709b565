use Rattle.std.proofs.Common.{rules, ◌≡◌, ◌∙◌, ℕ, false, not, true, sym, ap}
use Rattle.std.specs.Prelude.{◌&&◌}
use Rattle.job_model.specs.declared.call_kind.CallKind.{CallKind}
use Rattle.kernel_model.specs.Codes.{bad_parameters, target_dead}
use Rattle.kernel_model.specs.Resume.{is_close}
use Rattle.own_model.specs.Solo.{gives_up}
use Rattle.solo.proofs.Onward.{comes_same, none_home, some_home, tested_dead, tested_free, tested_held, tested_none, waits_as}
use Rattle.solo.specs.Standing.{app_in}
use Rattle.solo.proofs.solo_session.SoloSession.retest.Goals as goal

pub returns-in-None-clause-retests : goal.returns-in-None-clause-retests
returns-in-None-clause-retests c solo w beside is waits number input works =
    let s = c.args.self.now in
    comes_same c.give_up.new.self c.give_up.new.cont c.args.number solo _ _
    (tested_none (app_in s) solo w (none_home s solo c.in-None.ensures beside) ∙ ap (λ (n : ℕ). gives_up solo n w.call bad_parameters) number)
    (c.give_up.ensures.gives_up solo w.call beside is)

pub returns-then-lost-clause-retests : goal.returns-then-lost-clause-retests
returns-then-lost-clause-retests c solo w beside is waits number input works =
    let s = c.args.self.now in
    let at = c.in-Some.found in
    let fails : (at.dead && not (is_close w.call.kind)) ≡ true =
    ap (λ (k : CallKind). at.dead && not (is_close k)) (sym is.kind) ∙ sym c.is_lost-lost.ensures ∙ c.if-lost.true in
    comes_same c.give_up-then-lost.new.self c.give_up-then-lost.new.cont c.args.number solo _ _
    (tested_dead (app_in s) solo w at (some_home s solo at c.in-Some.ensures beside) fails
    ∙ ap (λ (n : ℕ). gives_up solo n w.call target_dead) number)
    (c.give_up-then-lost.ensures.gives_up solo w.call beside is)

pub returns-then-found-clause-retests : goal.returns-then-found-clause-retests
returns-then-found-clause-retests c solo w beside is waits number input works =
    let s = c.args.self.now in
    let at = c.in-Some.found in
    let lost : c.is_lost-lost.result ≡ false = search rules in
    let held : at.held ≡ true = search rules in
    let fails : (at.dead && not (is_close w.call.kind)) ≡ false =
    ap (λ (k : CallKind). at.dead && not (is_close k)) (sym is.kind) ∙ sym c.is_lost-lost.ensures ∙ lost in
    comes_same c.wait_on.new.self c.wait_on.new.cont c.args.number solo _ _
    (tested_held (app_in s) solo w at (some_home s solo at c.in-Some.ensures beside) fails held
    ∙ waits_as solo w c.args.number c.args.input.now number input)
    (c.wait_on.ensures.waits solo w.call w.params beside is)

pub returns-else-found-clause-retests : goal.returns-else-found-clause-retests
returns-else-found-clause-retests c solo w beside is waits number input works =
    let s = c.args.self.now in
    let at = c.in-Some.found in
    let home = some_home s solo at c.in-Some.ensures beside in
    let lost : c.is_lost-lost.result ≡ false = search rules in
    let free : at.held ≡ false = search rules in
    let fails : (at.dead && not (is_close w.call.kind)) ≡ false =
    ap (λ (k : CallKind). at.dead && not (is_close k)) (sym is.kind) ∙ sym c.is_lost-lost.ensures ∙ lost in
    comes_same c.go_on.new.self c.go_on.new.cont c.args.number solo _ _
    (tested_free (app_in s) solo w at home fails free)
    (c.go_on.ensures.goes_on solo w home.at beside is waits number works home.home)
