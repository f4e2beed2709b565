use Rattle.std.proofs.Common.{◌≡◌, ℕ, List, true, ap, sym, ◌∙◌, arith}
use Rattle.base.specs.Bytes.{overwritten}
use Rattle.tee_storage.specs.OpenObjects.{reading}
use Rattle.tee_storage.specs.Program.{now_at}
use Rattle.tee_storage.specs.Replies.{is_whole}
use Rattle.tee_storage.specs.Transfers.{other_pieces, this_len}
use Rattle.tee_storage.proofs.Pieces.{read_on}
use Rattle.tee_storage.proofs.reading.piece_read.Goals as goal

pub returns-clause-left : goal.returns-clause-left
returns-clause-left g c = λ taken.
    let before : List ℕ = g.M.Span.bytes c.args.span.now in
    let after : List ℕ = g.M.Span.bytes c.write.new.self in
    let t = c.args.transfer in
    let good : c.args.reply.now.ret ≡ 0 = omega (arith, c.if-reply-ne-TEE_SUCCESS.false) in
    let whole : is_whole c.args.reply.now (this_len t) ≡ true = ap (is_whole c.args.reply.now) (sym c.piece_len.ensures) ∙ sym c.if-not-is_whole.ensures in
    read_on t taken (now_at before c.args.handles.now) c.args.reply.now good whole
    ∙ ap (λ (r : List ℕ). reading t.handle t.object t.len (other_pieces t) (now_at r c.args.handles.now))
    (ap (overwritten before t.done) (sym c.bytes.ensures.bytes) ∙ sym c.write.ensures.bytes)
    ∙ (rw c.after_piece.ensures at c.next_piece.ensures.left taken after)
