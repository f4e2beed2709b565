use Rattle.std.proofs.Common.{◌≡◌, ℕ, ◌+◌, ◌<◌, List, ◌++◌, length, refl, ap, sym, ◌∙◌, arith}
use Rattle.tee_storage.specs.declared.waits.Transfer.{Transfer}
use Rattle.tee_storage.specs.ObjectFiles.{Piece, pieces_from}
use Rattle.tee_storage.specs.Program.{Now, now_at}
use Rattle.tee_storage.specs.States.{reading_on, storing_by}
use Rattle.tee_storage.specs.Transfers.{data_len, other_data}
use Rattle.tee_storage.proofs.Pieces.{brought, data_on, piece_first, whole_piece}
use Rattle.tee_storage.proofs.data_reading.read_on.Goals as goal

pub take-requires-clause-piece : goal.take-requires-clause-piece
take-requires-clause-piece g c =
    let read = c.args.read.now in
    let reply = c.args.reply.now in
    let comes = brought reply (data_len read) read.start read.transfer.object.length c.requires.reads in
    ap length c.bytes.ensures.bytes ∙ whole_piece reply (data_len read) comes.whole

pub returns-clause-left : goal.returns-clause-left
returns-clause-left g c = λ taken objects has.
    let before = now_at (g.M.Span.bytes c.args.span.now) objects in
    let after = now_at (g.M.Span.bytes c.take.new.span) objects in
    let read = c.args.read.now in
    let later = c.take.new.self in
    let reply = c.args.reply.now in
    let piece : List ℕ = c.bytes.result.now in
    let content = taken.content ++ piece in
    let comes = brought reply (data_len read) read.start read.transfer.object.length c.requires.reads in
    let more : read.start + data_len read < read.transfer.object.length = comes.more in
    let same : piece ≡ reply.bytes = c.bytes.ensures.bytes in
    let long : length piece ≡ data_len read = ap length same ∙ whole_piece reply (data_len read) comes.whole in
    let start : read.start + data_len read ≡ later.start = ap (λ (k : ℕ). read.start + k) (sym long) ∙ sym c.take.ensures.moves.1 in
    let total : read.transfer.object.length ≡ later.transfer.object.length = ap (λ (t : Transfer). t.object.length) (sym c.take.ensures.moves.0) in
    let others : other_data read ≡ pieces_from later.start later.transfer.object.length =
    ap (λ (k : ℕ). pieces_from k read.transfer.object.length) start ∙ ap (pieces_from later.start) total in
    let left : later.start < later.transfer.object.length = omega arith in
    record {
      content = content;
      is =
          data_on read taken before reply comes.good comes.whole
          ∙ ap (λ (bytes : List ℕ). reading_on read (other_data read) taken.key (taken.content ++ bytes) (storing_by read.tagging read.transfer before read.start bytes)) (sym same)
          ∙ ap (λ (now : Now). reading_on read (other_data read) taken.key content now) (sym (c.take.ensures.stored objects))
          ∙ sym (c.take.ensures.goes_on (other_data read) taken.key content after)
          ∙ ap (λ (pieces : List Piece). reading_on later pieces taken.key content after) (others ∙ piece_first later.start later.transfer.object.length left)
          ∙ rw c.request.ensures refl;
      hashes = c.take.ensures.taken taken has;
    }
