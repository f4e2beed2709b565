use Rattle.std.proofs.Common.{sym, ◌∙◌}
use Rattle.tee_storage.specs.OpenObjects.{all_read}
use Rattle.tee_storage.specs.Program.{now_at}
use Rattle.tee_storage.proofs.data_reading.read_checked.Goals as goal

pub returns-in-None-clause-left : goal.returns-in-None-clause-left
returns-in-None-clause-left c = λ taken range.
    let t = c.args.transfer in
    let now = now_at range c.args.handles.now in
    sym (c.in-None.ensures.left taken now (all_read t.handle t.object t.len now)) ∙ c.all_read.ensures.left taken range
