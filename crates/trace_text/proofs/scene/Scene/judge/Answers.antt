use Rattle.std.proofs.Common.{◌≤◌, ap, arith}
use Rattle.trace_text.specs.Limits.{SceneState}
use Rattle.trace_text.specs.Statement.{closed_if}
use Rattle.trace_text.proofs.Standing.{few_cpus, item_judged_so, judged_so}
use Rattle.trace_text.proofs.scene.Scene.judge.Goals as goal

pub returns-in-Some-clause-in_place : goal.returns-in-Some-clause-in_place
returns-in-Some-clause-in_place c =
    let few : c.args.self.now.cpus ≤ 8 = omega (arith, few_cpus c.self.inside.cpus c.self.invariant, ap (λ (s : SceneState). s.cpus) c.self.view_is) in
    (item_judged_so c.args.natives.now c.args.self.now c.args.is_closed c.args.line.now c.in-Some.item few c.in-Some.ensures).in_place

pub returns-in-Some-clause-few : goal.returns-in-Some-clause-few
returns-in-Some-clause-few c =
    let few : c.args.self.now.cpus ≤ 8 = omega (arith, few_cpus c.self.inside.cpus c.self.invariant, ap (λ (s : SceneState). s.cpus) c.self.view_is) in
    (item_judged_so c.args.natives.now c.args.self.now c.args.is_closed c.args.line.now c.in-Some.item few c.in-Some.ensures).few

pub returns-clause-in_place : goal.returns-clause-in_place
returns-clause-in_place c =
    let few : c.args.self.now.cpus ≤ 8 = omega (arith, few_cpus c.self.inside.cpus c.self.invariant, ap (λ (s : SceneState). s.cpus) c.self.view_is) in
    (judged_so c.args.natives.now (closed_if c.args.is_closed c.args.self.now) c.args.line.now c.judge_by_words.result few c.judge_by_words.ensures).in_place

pub returns-clause-few : goal.returns-clause-few
returns-clause-few c =
    let few : c.args.self.now.cpus ≤ 8 = omega (arith, few_cpus c.self.inside.cpus c.self.invariant, ap (λ (s : SceneState). s.cpus) c.self.view_is) in
    (judged_so c.args.natives.now (closed_if c.args.is_closed c.args.self.now) c.args.line.now c.judge_by_words.result few c.judge_by_words.ensures).few
