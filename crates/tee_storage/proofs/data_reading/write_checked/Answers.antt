use Rattle.std.proofs.Common.{sym, ◌∙◌}
use Rattle.tee_storage.specs.ObjectFiles.{pieces_from}
use Rattle.tee_storage.specs.OpenObjects.{writing}
use Rattle.tee_storage.specs.Program.{now_at}
use Rattle.tee_storage.proofs.Leaving.{takes_nothing}
use Rattle.tee_storage.proofs.data_reading.write_checked.Goals as goal

pub returns-in-Some-clause-hashes : goal.returns-in-Some-clause-hashes
returns-in-Some-clause-hashes g c = takes_nothing c.in-Some.turn.waits c.in-Some.ensures.ready

pub returns-in-None-clause-left : goal.returns-in-None-clause-left
returns-in-None-clause-left g c = λ taken objects.
    let t = c.args.transfer in
    let now = now_at (g.M.Span.bytes c.args.span.now) objects in
    sym (c.in-None.ensures.left taken now (writing t.handle t.object t.len c.args.new (pieces_from t.done t.len) now))
    ∙ c.next_piece.ensures.left taken objects
