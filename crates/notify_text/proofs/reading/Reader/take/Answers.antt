use Rattle.std.proofs.Common.{◌≡◌, ap, true, ◌∙◌}
use Rattle.notify_text.specs.Rules.{NotifyFront, after_line, line_rules}
use Rattle.notify_text.specs.Statement.{with_statement}
use Rattle.notify_text.proofs.Judged.{closed_scene}
use Rattle.trace_text.specs.Limits.{scene_of}
use Rattle.trace_text.proofs.Taking.{put_is_taken}
use Rattle.notify_text.proofs.reading.Reader.take.Goals as goal

pub returns : goal.returns
returns c =
    let before = c.args.self.now in
    let line = c.args.line.now in
    let told : NotifyFront = record { trace = c.self.inside.builder; signals = c.self.inside.signals.items } in
    let view : told ≡ before = cc c.self.view_is in
    let scene = closed_scene before c.scene.result.now c.is_closed-is_closed.result (c.scene.ensures ∙ ap (λ (f : NotifyFront). scene_of f.trace) view) c.is_closed-is_closed.ensures in
    put_is_taken with_statement c.push.result (line_rules c.args.natives.now before true line) before (after_line before line) c.push.new.self c.in_ok-said.said (c.in_ok-said.ensures.judged before scene c.requires) c.push.ensures
