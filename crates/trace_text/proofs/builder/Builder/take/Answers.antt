use Rattle.std.proofs.Common.{◌≡◌, true, None, Ok, Err}
use Rattle.std.proofs.lemmas.Result.{err_from_is_err_and}
use Rattle.trace_text.specs.Limits.{first_broken}
use Rattle.trace_text.specs.Rules.{after_line, line_rules, said_in}
use Rattle.trace_text.specs.Statement.{with_statement}
use Rattle.trace_text.proofs.Taking.{adds_judged, fault_is_taken, put_is_taken}
use Rattle.trace_text.proofs.builder.Builder.take.Goals as goal

pub returns-in_err-said : goal.returns-in_err-said
unfolding line_rules
returns-in_err-said c =
    let before = c.args.self.now in
    let line = c.args.line.now in
    let rules = line_rules c.args.natives.now before true line in
    let fault = c.in_err-said.field-0.0 in
    let passed = err_from_is_err_and c.from_residual.result c.from_residual.ensures.1 in
    rw (passed.1, passed.2)
    (fault_is_taken with_statement fault rules before (after_line before line) before (adds_judged (Err fault) rules before line (rw c.scene.ensures at c.in_err-said.ensures.judged)))

pub returns : goal.returns
unfolding line_rules
returns c =
    let before = c.args.self.now in
    let line = c.args.line.now in
    let rules = line_rules c.args.natives.now before true line in
    let said = c.in_ok-said.said in
    let judged : (first_broken rules ≡ None) × (said ≡ said_in line) = rw c.scene.ensures at c.in_ok-said.ensures.judged in
    put_is_taken with_statement c.push.result rules before (after_line before line) c.push.new.self said (adds_judged (Ok said) rules before line judged) c.push.ensures
