use Rattle.std.proofs.Common.{refl, ap, sym, ◌∙◌}
use Rattle.tee_storage.specs.Program.{now_at}
use Rattle.tee_storage.proofs.NewObjects.{asked, on_file_asks}
use Rattle.tee_storage.proofs.opening.FileCall.begin.Goals as goal

pub returns-in-Ok-clause-left : goal.returns-in-Ok-clause-left
returns-in-Ok-clause-left g c = λ taken.
    let now = now_at (g.M.Span.bytes c.args.span.now) c.args.handles.now in
    on_file_asks c.args.self c.args.uuid c.args.key.now c.args.len now
    ∙ ap (asked c.args.self c.args.key.now now) (sym c.in-Ok.ensures.object)
    ∙ c.ask.ensures.left taken now

pub returns-in-Err-clause-left : goal.returns-in-Err-clause-left
returns-in-Err-clause-left g c = λ taken.
    let now = now_at (g.M.Span.bytes c.args.span.now) c.args.handles.now in
    on_file_asks c.args.self c.args.uuid c.args.key.now c.args.len now
    ∙ ap (asked c.args.self c.args.key.now now) (sym c.in-Err.ensures.object)
    ∙ rw c.failing.ensures refl
