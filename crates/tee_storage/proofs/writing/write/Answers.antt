use Rattle.std.proofs.Common.{◌≡◌, ℕ, ◌+◌, List, [], false, nat_lt, ap, sym, arith, ◌∙◌}
use Rattle.std.specs.Prelude.{◌==◌}
use Rattle.std.proofs.lemmas.Bool.Decides.{nat_tests}
use Rattle.tee_storage.specs.declared.waits.Transfer.{Transfer}
use Rattle.tee_storage.specs.ObjectFiles.{Piece, pieces_from}
use Rattle.tee_storage.specs.Program.{now_at}
use Rattle.tee_storage.specs.States.{reading_on}
use Rattle.tee_storage.proofs.Leaving.{IsLeft-same}
use Rattle.tee_storage.proofs.Pieces.{write_begun}
use Rattle.tee_storage.proofs.writing.write.Goals as goal

pub returns-clause-left : goal.returns-clause-left
returns-clause-left g c =
    let key : List ℕ = c.args.key.now in
    let object = c.in-Some.object in
    let now = now_at (g.M.Span.bytes c.args.span.now) c.args.handles.now in
    let read = c.old_data.result in
    let few : nat_lt 32768 (object.position + c.args.len) ≡ false = grind (arith, nat_tests, c.if-from.false, c.from.ensures, c.from-2.ensures, c.from-3.ensures) in
    let some : (c.args.len == 0) ≡ false = grind (arith, nat_tests, c.if-len-eq0.false) in
    let pieces : pieces_from 0 object.length ≡ pieces_from read.start read.transfer.object.length =
    ap (λ (k : ℕ). pieces_from k object.length) (sym c.old_data.ensures.is.0)
    ∙ ap (λ (t : Transfer). pieces_from read.start t.object.length) (sym c.old_data.ensures.is.1) in
    IsLeft-same
    (write_begun key c.args.handle c.args.len now object c.in-Some.ensures.handle few some
    ∙ sym (c.old_data.ensures.left (pieces_from 0 object.length) [] now)
    ∙ ap (λ (ps : List Piece). reading_on read ps key [] now) pieces)
    (c.next.ensures.left (record { key = key; content = [] }) c.args.handles.now (c.old_data.ensures.taken (g.M.Span.bytes c.args.span.now)))
