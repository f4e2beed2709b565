-- What a transfer of bytes goes on with.
use Rattle.std.proofs.Common.{◌≡◌, ℕ, suc, ◌+◌, ◌-◌, ◌/◌, ◌<◌, min, true, false, nat_lt, List, [], ◌∷◌, ◌++◌, length, Some, refl, ap, sym, arith}
use Rattle.std.specs.Prelude.{◌==◌, ◌&&◌}
use Rattle.std.proofs.lemmas.Bool.{and_parts, eqb-true, ltb-true}
use Rattle.base.specs.NumberMap.{get}
use Rattle.rpc_msgs.specs.declared.rpc.RpcReply.{RpcReply}
use Rattle.base.specs.Bytes.{overwritten}
use Rattle.tee_storage.specs.declared.handle.Handle.{Handle}
use Rattle.tee_storage.specs.declared.waits.Transfer.{Transfer}
use Rattle.tee_storage.specs.declared.waits.DataRead.{DataRead}
use Rattle.tee_storage.specs.declared.waits.Waits.TheVariants as waiting
use Rattle.tee_storage.specs.declared.waits.Waits.TheVariants.{PieceRead}
use Rattle.tee_storage.specs.KeptData.{reading_data, storing_none}
use Rattle.tee_storage.specs.OpenObjects.{reading, write, write_checked}
use Rattle.tee_storage.specs.ObjectFiles.{cut, pieces, pieces_from}
use Rattle.tee_storage.specs.Program.{Now}
use Rattle.tee_storage.specs.Replies.{brings_piece, is_whole}
use Rattle.tee_storage.specs.States.{Taken, onward, reading_on, storing_by}
use Rattle.tee_storage.specs.Transfers.{data_len, other_data, other_pieces, this_len}

-- a whole piece stands in the range, and the next one is asked for
pub read_on : (t : Transfer) (taken : Taken) (now : Now) (reply : RpcReply) → reply.ret ≡ 0 → is_whole reply (this_len t) ≡ true
    → onward (PieceRead t) taken now reply
    ≡ reading t.handle t.object t.len (other_pieces t) (record now { range = overwritten now.range t.done reply.bytes })
read_on t taken now reply good whole = rw (good, whole) refl

-- a whole piece of the data is there, and the next one is asked for
pub data_on : (read : DataRead) (taken : Taken) (now : Now) (reply : RpcReply) → reply.ret ≡ 0 → is_whole reply (data_len read) ≡ true
    → onward (waiting.DataRead read) taken now reply
    ≡ reading_on read (other_data read) taken.key (taken.content ++ reply.bytes) (storing_by read.tagging read.transfer now read.start reply.bytes)
data_on read taken now reply good whole = rw (good, whole) refl

-- a piece is brought, and more bytes are to follow
pub record IsBrought (reply : RpcReply) (len start total : ℕ) : Type 0 where
  pub good : reply.ret ≡ 0
  pub whole : is_whole reply len ≡ true
  pub more : start + len < total

pub brought : (reply : RpcReply) (len start total : ℕ) → (brings_piece reply len && nat_lt (start + len) total) ≡ true
    → IsBrought reply len start total
brought reply len start total reads =
    let (piece, more) = and_parts (brings_piece reply len) (nat_lt (start + len) total) reads in
    let (good, whole) = and_parts (reply.ret == 0) (is_whole reply len) piece in
    record { good = eqb-true reply.ret 0 good; whole = whole; more = ltb-true (start + len) total more }

-- it has as many bytes as were asked for
pub whole_piece : (reply : RpcReply) (len : ℕ) → is_whole reply len ≡ true → length reply.bytes ≡ len
whole_piece reply len whole = eqb-true (length reply.bytes) len (and_parts (reply.size == len) (length reply.bytes == len) whole).1

-- the first piece of the old data of a write is asked for
pub write_begun : (key : List ℕ) (handle len : ℕ) (now : Now) (object : Handle) → Some object ≡ get now.objects handle
    → nat_lt 32768 (object.position + len) ≡ false → (len == 0) ≡ false
    → write key handle len now ≡ reading_data object storing_none (pieces object.length) [] now (write_checked key handle object len)
write_begun key handle len now object found few some =
    rw (sym found, few, some) refl

-- where bytes are left, there is a piece of them, and those behind it
pub piece_first : (start total : ℕ) → start < total
    → pieces_from start total
    ≡ record { start = start; len = min 3584 (total - start) } ∷ pieces_from (start + min 3584 (total - start)) total
piece_first start total lt =
    let one_more : (total - start + 3583) / 3584 ≡ suc ((total - (start + min 3584 (total - start)) + 3583) / 3584) = omega arith in
    ap (λ (count : ℕ). cut count start total) one_more
