use Rattle.std.proofs.Common.{◌≡◌, ℕ, ◌+◌, ◌<◌, List, length, refl, ap, sym, ◌∙◌, arith}
use Rattle.base.specs.Bytes.{overwritten}
use Rattle.tee_storage.specs.ObjectFiles.{Piece, pieces_from}
use Rattle.tee_storage.specs.OpenObjects.{reading}
use Rattle.tee_storage.specs.Program.{now_at}
use Rattle.tee_storage.specs.Transfers.{other_pieces, this_len}
use Rattle.tee_storage.proofs.Pieces.{brought, piece_first, read_on, whole_piece}
use Rattle.tee_storage.proofs.reading.read_on.Goals as goal

pub write-requires : goal.write-requires
write-requires g c =
    let t = c.args.transfer.now in
    let reply = c.args.reply.now in
    let comes = brought reply (this_len t) t.done t.len c.requires.reads in
    let more : t.done + this_len t < t.len = comes.more in
    let long : length c.bytes.result.now ≡ this_len t = ap length c.bytes.ensures.bytes ∙ whole_piece reply (this_len t) comes.whole in
    omega arith

pub returns-clause-left : goal.returns-clause-left
returns-clause-left g c = λ taken objects has.
    let before : List ℕ = g.M.Span.bytes c.args.span.now in
    let after : List ℕ = g.M.Span.bytes c.write.new.self in
    let t = c.args.transfer.now in
    let reply = c.args.reply.now in
    let len = c.piece_len-len.result in
    let is : len ≡ this_len t = c.piece_len-len.ensures in
    let comes = brought reply (this_len t) t.done t.len c.requires.reads in
    let more : t.done + this_len t < t.len = comes.more in
    let left : t.done + len < t.len = omega arith in
    record {
      content = taken.content;
      is =
          read_on t taken (now_at before objects) reply comes.good comes.whole
          ∙ ap (λ (r : List ℕ). reading t.handle t.object t.len (other_pieces t) (now_at r objects))
          (ap (overwritten before t.done) (sym c.bytes.ensures.bytes) ∙ sym c.write.ensures.bytes)
          ∙ ap (λ (k : ℕ). reading t.handle t.object t.len (pieces_from (t.done + k) t.len) (now_at after objects)) (sym is)
          ∙ ap (λ (pieces : List Piece). reading t.handle t.object t.len pieces (now_at after objects)) (piece_first (t.done + len) t.len left)
          ∙ rw c.request.ensures refl;
      hashes = tt;
    }
