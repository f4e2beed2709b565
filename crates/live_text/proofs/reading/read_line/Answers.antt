use Rattle.std.proofs.Common.{◌≡◌, ap, true, ◌∙◌}
use Rattle.live_text.specs.Scene.{LiveScene}
use Rattle.live_text.proofs.Judged.{fault_judged, has_boot, history_judged, said_judged, unknown_broken}
use Rattle.notify_text.specs.Rules.{after_line, line_rules}
use Rattle.live_text.proofs.reading.read_line.Goals as goal

pub returns-in-Ok-clause-judged : goal.returns-in-Ok-clause-judged
returns-in-Ok-clause-judged c = λ front is has.
    let lines = c.lines.ensures ∙ ap (λ (s : LiveScene). s.lines) is in
    said_judged c.args.natives.now front c.args.line.now c.in-Ok.said (c.in-Ok.ensures.judged front.told lines (has_boot front has))

pub returns-then-is_unknown-clause-judged : goal.returns-then-is_unknown-clause-judged
returns-then-is_unknown-clause-judged c = λ front is has.
    let lines = c.lines.ensures ∙ ap (λ (s : LiveScene). s.lines) is in
    let rules = line_rules c.args.natives.now front.told true c.args.line.now in
    let unknown = unknown_broken c.in-Err.fault rules front.told (after_line front.told c.args.line.now) (c.is_unknown.ensures.0 c.if-is_unknown.true) (c.in-Err.ensures.judged front.told lines (has_boot front has)) in
    history_judged c.args.natives.now c.args.scene.now front c.args.line.now c.read_history.result is unknown c.read_history.ensures

pub returns-else-is_unknown-clause-judged : goal.returns-else-is_unknown-clause-judged
returns-else-is_unknown-clause-judged c = λ front is has.
    let lines = c.lines.ensures ∙ ap (λ (s : LiveScene). s.lines) is in
    fault_judged c.args.natives.now front c.args.line.now c.in-Err.fault
    (λ e. let known : c.is_unknown.result ≡ true = c.is_unknown.ensures.1 e in cc (known, c.if-is_unknown.false))
    (c.in-Err.ensures.judged front.told lines (has_boot front has))
