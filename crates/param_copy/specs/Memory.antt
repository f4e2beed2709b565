-- The memory of a parameter as pieces of RAM, whose lengths sum to its size. optee_msg.h names it in three
-- ways: a part of a registered buffer (rmem), an address (tmem), or a chain of page lists (tmem with
-- NONCONTIG).
use Rattle.std.specs.Prelude.{◌≡◌, ℕ, zero, suc, ◌+◌, ◌-◌, ◌%◌, not, ◌==◌, ◌&&◌, nat_lt, List, [], ◌∷◌, ◌++◌, Some, Ok, Err, replicate, sum_by, if◌then◌else◌}
use Rattle.std.specs.List.{AllByRecursion}
use Rattle.std.specs.Option.{option_map_or}
use Rattle.base.specs.NumberMap.{NumberMap, get}
use Rattle.msg_args.specs.declared.param.MsgParam.{MsgParam}
use Rattle.ns_ram.specs.Attempt.{Attempt, passes, refuses}
use Rattle.ns_ram.specs.Lane.{is_in_ram}
use Rattle.ns_ram.specs.Pages.{Walk, walk}
use Rattle.ns_ram.specs.declared.read.Read.{Read}
use Rattle.ns_ram.specs.Reader.{Reader, done, over_lane, take_bytes, ◌>>=◌}
use Rattle.shm_registry.specs.declared.page_buffer.PageBuffer.{PageBuffer}
use Rattle.shm_registry.specs.declared.piece.Piece.{Piece}
use Rattle.shm_registry.specs.Pieces.{IsPieceOfRam, page_count, pieces_from}
use Rattle.param_copy.specs.declared.fault.CopyFault.{CopyFault}
use Rattle.param_copy.specs.declared.fault.CopyFault.TheVariants.{TooLong, Cookie, Range, Page}

-- how many bytes the pieces have together
abbrev pub bytes_in : List Piece → ℕ
bytes_in pieces = sum_by (λ piece. piece.len) pieces

-- ---- where the bytes lie

-- bytes that stand one behind the other are one piece, and no bytes are none
abbrev pub one_piece : ℕ → ℕ → List Piece
one_piece addr zero = []
one_piece addr (suc more) = record { addr = addr; len = suc more } ∷ []

-- of a registered buffer: p is the offset, q the size, s the cookie
abbrev pub part_of_buffer : ℕ → MsgParam → PageBuffer → Attempt CopyFault (List Piece)
part_of_buffer number param buffer =
    if nat_lt buffer.size (param.p + param.q) then refuses (Range number)
    else passes (pieces_from buffer.pages (buffer.offset + param.p) param.q)

abbrev pub registered_pieces : NumberMap PageBuffer → ℕ → MsgParam → Attempt CopyFault (List Piece)
registered_pieces buffers number param =
    option_map_or (part_of_buffer number param) (get buffers param.s) (refuses (Cookie number))

-- at an address: p is the address, q the size
abbrev pub contiguous_pieces : ℕ → MsgParam → Attempt CopyFault (List Piece)
contiguous_pieces number param =
    if is_in_ram param.p param.q then passes (one_piece param.p param.q) else refuses (Range number)

-- in the pages of a chain of lists: the low twelve bits of p are the offset in the first page, the rest is
-- the address of the first list, and q is the size
abbrev pub cut_at_pages : ℕ → MsgParam → Walk → Attempt CopyFault (List Piece)
cut_at_pages number param (Ok pages) = passes (pieces_from pages (param.p % 4096) param.q)
cut_at_pages number param (Err page) = refuses (Page number page)

abbrev pub chained_pieces : ℕ → MsgParam → Attempt CopyFault (List Piece)
chained_pieces number param =
    let offset = param.p % 4096 in
    walk (param.p - offset) (page_count offset param.q) >>= cut_at_pages number param

-- ---- the first fault

-- those pieces, unless the size is above the limit
abbrev pub within_limit : ℕ → MsgParam → Attempt CopyFault (List Piece) → Attempt CopyFault (List Piece)
within_limit number param pieces = if nat_lt 65536 param.q then refuses (TooLong number) else pieces

-- registered memory
abbrev pub rmem_pieces : NumberMap PageBuffer → ℕ → MsgParam → Attempt CopyFault (List Piece)
rmem_pieces buffers number param = within_limit number param (registered_pieces buffers number param)

-- memory named by address. The null reference, an address of 0 without NONCONTIG, has no bytes whatever its
-- size says
abbrev pub tmem_pieces : ℕ → MsgParam → Attempt CopyFault (List Piece)
tmem_pieces number param =
    let contiguous = within_limit number param (contiguous_pieces number param) in
    let named = if param.p == 0 then passes [] else contiguous in
    if param.noncontig then within_limit number param (chained_pieces number param) else named

-- ---- the sizes

-- how many bytes memory has that is named by address
abbrev pub tmem_size : MsgParam → ℕ
tmem_size param = if not param.noncontig && (param.p == 0) then 0 else param.q

-- the pieces that are found lie in RAM, and their lengths sum to the size
pub record HaveSize (located : Attempt CopyFault (List Piece)) (size : ℕ) : Type 0 where
  pub sum : (lane : List ℕ) (before after : List Read) (pieces : List Piece) →
      over_lane located lane before ≡ Some (Ok pieces, after) → bytes_in pieces ≡ size
  pub in_ram : (lane : List ℕ) (before after : List Read) (pieces : List Piece) →
      over_lane located lane before ≡ Some (Ok pieces, after) → AllByRecursion IsPieceOfRam pieces

-- ---- the bytes

-- the bytes of the pieces, each piece as one read
abbrev pub take_pieces : List Piece → Reader (List ℕ)
take_pieces [] = done []
take_pieces (piece ∷ pieces) = do
  bytes ← take_bytes piece.addr piece.len
  others ← take_pieces pieces
  done (bytes ++ others)

-- as many zeros as the pieces have bytes, which aren't read
abbrev pub zeros_for : List Piece → List ℕ
zeros_for pieces = replicate (bytes_in pieces) 0
