use Rattle.std.proofs.Common.{◌≡◌, [], ap, ◌∙◌}
use Rattle.notify_text.specs.Grammar.{piece_fault}
use Rattle.notify_text.specs.Rules.{NotifyFront, notify_trace_in}
use Rattle.notify_text.proofs.Lines.{end-same}
use Rattle.notify_text.proofs.reading.Reader.finish.Goals as goal

pub returns-in-Ok : goal.returns-in-Ok
returns-in-Ok c = λ natives.
    let end = c.in-Ok.ensures natives in
    let told : NotifyFront = record { trace = c.self.inside.builder; signals = c.self.inside.signals.items } in
    let view : c.args.self ≡ told = cc c.self.view_is in (
      ap (λ (t : NotifyFront). piece_fault natives t c.args.rest.now []) view ∙ end-same natives told c.args.rest.now ∙ end.0,
      cc (ap notify_trace_in view, end.1, c.of.ensures),
    )

pub returns-in-Err : goal.returns-in-Err
returns-in-Err c = λ natives.
    let told : NotifyFront = record { trace = c.self.inside.builder; signals = c.self.inside.signals.items } in
    let view : c.args.self ≡ told = cc c.self.view_is in
    ap (λ (t : NotifyFront). piece_fault natives t c.args.rest.now []) view ∙ end-same natives told c.args.rest.now
    ∙ c.in-Err.ensures natives
