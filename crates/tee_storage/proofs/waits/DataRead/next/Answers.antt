use Rattle.std.proofs.Common.{◌<◌, List, refl, ap, ◌∙◌, arith}
use Rattle.tee_storage.specs.ObjectFiles.{Piece}
use Rattle.tee_storage.specs.Program.{now_at}
use Rattle.tee_storage.specs.States.{reading_on}
use Rattle.tee_storage.proofs.Pieces.{piece_first}
use Rattle.tee_storage.proofs.waits.DataRead.next.Goals as goal

pub returns-clause-left : goal.returns-clause-left
returns-clause-left g c = λ taken objects has.
    let read = c.args.self in
    let now = now_at (g.M.Span.bytes c.args.span.now) objects in
    let left : read.start < read.transfer.object.length = omega (arith, c.if-self.false) in
    record {
      content = taken.content;
      is = ap (λ (pieces : List Piece). reading_on read pieces taken.key taken.content now) (piece_first read.start read.transfer.object.length left)
          ∙ rw (c.asking.ensures, c.request-rpc.ensures, c.new.ensures) refl;
      hashes = rw c.asking.ensures has;
    }
