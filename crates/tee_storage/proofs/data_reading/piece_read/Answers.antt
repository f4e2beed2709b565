use Rattle.std.proofs.Common.{◌≡◌, ℕ, ◌+◌, List, ◌++◌, true, length, ap, sym, ◌∙◌, arith}
use Rattle.tee_storage.specs.declared.waits.Transfer.{Transfer}
use Rattle.tee_storage.specs.ObjectFiles.{Piece, pieces_from}
use Rattle.tee_storage.specs.Program.{Now, now_at}
use Rattle.tee_storage.specs.Replies.{is_whole}
use Rattle.tee_storage.specs.States.{reading_on, storing_by}
use Rattle.tee_storage.specs.Transfers.{data_len, other_data}
use Rattle.tee_storage.proofs.Leaving.{IsLeft-same}
use Rattle.tee_storage.proofs.Pieces.{data_on, whole_piece}
use Rattle.tee_storage.proofs.data_reading.piece_read.Goals as goal

pub returns-clause-left : goal.returns-clause-left
returns-clause-left g c = λ taken objects has.
    let before = now_at (g.M.Span.bytes c.args.span.now) objects in
    let after = now_at (g.M.Span.bytes c.take.new.span) objects in
    let read = c.args.read in
    let later = c.take.new.self in
    let reply = c.args.reply.now in
    let piece : List ℕ = c.bytes.result.now in
    let content = taken.content ++ piece in
    let good : reply.ret ≡ 0 = omega (arith, c.if-reply-ne-TEE_SUCCESS.false) in
    let whole : is_whole reply (data_len read) ≡ true = ap (is_whole reply) (sym c.piece_len.ensures) ∙ sym c.if-not-is_whole.ensures in
    let same : piece ≡ reply.bytes = c.bytes.ensures.bytes in
    let long : length piece ≡ data_len read = ap length same ∙ whole_piece reply (data_len read) whole in
    let start : read.start + data_len read ≡ later.start = ap (λ (k : ℕ). read.start + k) (sym long) ∙ sym c.take.ensures.moves.1 in
    let others : other_data read ≡ pieces_from later.start later.transfer.object.length =
    ap (λ (k : ℕ). pieces_from k read.transfer.object.length) start
    ∙ ap (λ (t : Transfer). pieces_from later.start t.object.length) (sym c.take.ensures.moves.0) in
    IsLeft-same
    (data_on read taken before reply good whole
    ∙ ap (λ (bytes : List ℕ). reading_on read (other_data read) taken.key (taken.content ++ bytes) (storing_by read.tagging read.transfer before read.start bytes)) (sym same)
    ∙ ap (λ (now : Now). reading_on read (other_data read) taken.key content now) (sym (c.take.ensures.stored objects))
    ∙ sym (c.take.ensures.goes_on (other_data read) taken.key content after)
    ∙ ap (λ (pieces : List Piece). reading_on later pieces taken.key content after) others)
    (c.next.ensures.left (record { key = taken.key; content = content }) objects (c.take.ensures.taken taken has))
