use Rattle.std.proofs.Common.{◌<◌, List, refl, ap, ◌∙◌, arith}
use Rattle.tee_storage.specs.ObjectFiles.{Piece}
use Rattle.tee_storage.specs.OpenObjects.{writing}
use Rattle.tee_storage.specs.Program.{now_at}
use Rattle.tee_storage.proofs.Leaving.{takes_nothing}
use Rattle.tee_storage.proofs.Pieces.{piece_first}
use Rattle.tee_storage.proofs.writing.next_piece.Goals as goal

pub returns-clause-left : goal.returns-clause-left
returns-clause-left g c = λ taken objects.
    let t = c.args.transfer in
    let left : t.done < t.len = omega (arith, c.if-transfer.false) in
    ap (λ (pieces : List Piece). writing t.handle t.object t.len c.args.tag pieces (now_at (g.M.Span.bytes c.args.span.now) objects)) (piece_first t.done t.len left)
    ∙ rw (c.asking.ensures, c.bytes_of-payload.ensures, c.offset.ensures, c.piece_len-len.ensures) refl

pub returns-then-transfer-clause-hashes : goal.returns-then-transfer-clause-hashes
returns-then-transfer-clause-hashes g c = takes_nothing c.all_written.result.waits c.all_written.ensures.ready
