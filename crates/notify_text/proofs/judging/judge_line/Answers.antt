use Rattle.std.proofs.Common.{◌≡◌, true, Ok, Err}
use Rattle.trace_text.specs.Rules.{rules_at, said_in}
use Rattle.trace_text.specs.Statement.{closed_if}
use Rattle.trace_text.specs.declared.fault.BadKind.TheVariants as bad
use Rattle.trace_text.specs.declared.fault.LineFault.TheVariants.{Broken}
use Rattle.notify_text.proofs.Judged.{other_judged, told_judged, unknown_broken}
use Rattle.notify_text.proofs.judging.judge_line.Goals as goal

pub returns-in-Ok-clause-judged : goal.returns-in-Ok-clause-judged
returns-in-Ok-clause-judged c = λ front is has.
    told_judged c.args.natives.now (closed_if c.args.is_closed c.args.scene.now) front c.args.line.now (Ok c.in-Ok.said) is has (λ e. cc) c.in-Ok.ensures.judged

pub returns-then-is_unknown-clause-judged : goal.returns-then-is_unknown-clause-judged
returns-then-is_unknown-clause-judged c = λ front is has.
    let scene = closed_if c.args.is_closed c.args.scene.now in
    let rules = rules_at c.args.natives.now scene true c.args.line.now in
    let unknown = unknown_broken c.in-Err.fault rules (said_in c.args.line.now) (c.is_unknown.ensures.0 c.if-is_unknown.true) c.in-Err.ensures.judged in
    other_judged c.args.natives.now scene front c.args.line.now c.judge_other.result is unknown (rw c.is_booted.ensures at c.judge_other.ensures)

pub returns-else-is_unknown-clause-judged : goal.returns-else-is_unknown-clause-judged
returns-else-is_unknown-clause-judged c = λ front is has.
    told_judged c.args.natives.now (closed_if c.args.is_closed c.args.scene.now) front c.args.line.now (Err c.in-Err.fault) is has
    (λ e. let same : c.in-Err.fault ≡ Broken bad.Item = cc in let known : c.is_unknown.result ≡ true = c.is_unknown.ensures.1 same in cc (known, c.if-is_unknown.false))
    c.in-Err.ensures.judged
