use Rattle.std.proofs.Common.{◌<◌, List, refl, ap, ◌∙◌, arith}
use Rattle.tee_storage.specs.ObjectFiles.{Piece}
use Rattle.tee_storage.specs.OpenObjects.{reading}
use Rattle.tee_storage.specs.Program.{now_at}
use Rattle.tee_storage.proofs.Leaving.{takes_nothing}
use Rattle.tee_storage.proofs.Pieces.{piece_first}
use Rattle.tee_storage.proofs.reading.next_piece.Goals as goal

pub returns-clause-left : goal.returns-clause-left
returns-clause-left c = λ taken range.
    let t = c.args.transfer in
    let left : t.done < t.len = omega (arith, c.if-transfer.false) in
    ap (λ (pieces : List Piece). reading t.handle t.object t.len pieces (now_at range c.args.handles.now)) (piece_first t.done t.len left)
    ∙ rw (c.asking.ensures, c.request-rpc.ensures, c.new.ensures) refl

pub returns-then-transfer-clause-hashes : goal.returns-then-transfer-clause-hashes
returns-then-transfer-clause-hashes c = takes_nothing c.all_read.result.waits c.all_read.ensures.ready
