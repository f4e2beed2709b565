-- Bytes that are being read or written: the piece that was asked for, and those behind it.
use Rattle.std.specs.Prelude.{◌≡◌, ℕ, ◌+◌, ◌-◌, ◌^◌, ◌<◌, ◌≤◌, min, nat_lt, List, length, take, if◌then◌else◌}
use Rattle.base.specs.Bytes.{overwritten}
use Rattle.tee_storage.specs.declared.waits.DataRead.{DataRead}
use Rattle.tee_storage.specs.declared.waits.Tagging.{Tagging}
use Rattle.tee_storage.specs.declared.waits.Tagging.TheVariants.{Check, Make, Replace}
use Rattle.tee_storage.specs.declared.waits.Transfer.{Transfer}
use Rattle.tee_storage.specs.ObjectFiles.{Piece, pieces_from}

abbrev pub this_len : Transfer → ℕ
this_len t = min 3584 (t.len - t.done)

abbrev pub other_pieces : Transfer → List Piece
other_pieces t = pieces_from (t.done + this_len t) t.len

-- a read has a piece left, and its bytes are in the range
pub record IsRead (t : Transfer) (range : List ℕ) : Type 0 where
  pub handle : t.handle < 8
  pub begun : t.done < t.len
  pub room : t.len ≤ length range
  pub end : t.object.position + t.len < 2 ^ 32

-- a write too, and it ends within an object's limit
pub record IsWrite (t : Transfer) (range : List ℕ) : Type 0 where
  pub handle : t.handle < 8
  pub begun : t.done < t.len
  pub room : t.len ≤ length range
  pub end : t.object.position + t.len ≤ 32768

-- all the bytes of a write are written
pub record IsWritten (t : Transfer) : Type 0 where
  pub handle : t.handle < 8
  pub end : t.object.position + t.len ≤ 32768

-- ---- all the data of an object

-- how many bytes the piece has that was asked for, or is to be
abbrev pub data_len : DataRead → ℕ
data_len read = min 3584 (read.transfer.object.length - read.start)

-- those behind it
abbrev pub other_data : DataRead → List Piece
other_data read = pieces_from (read.start + data_len read) read.transfer.object.length

-- what a write goes over ends within an object's limit
abbrev pub IsWithinLimit : Tagging → Transfer → Type 0
IsWithinLimit (Check kept) t = Unit {0}
IsWithinLimit (Make new) t = t.object.position + t.len ≤ 32768
IsWithinLimit (Replace kept new) t = t.object.position + t.len ≤ 32768

-- a piece of the data is asked for, and the bytes of the call are in the range
pub record IsDataRead (read : DataRead) (range : List ℕ) : Type 0 where
  pub handle : read.transfer.handle < 8
  pub left : read.start ≤ read.transfer.object.length
  pub undone : read.transfer.done ≡ 0
  pub some : 0 < read.transfer.len
  pub room : read.transfer.len ≤ length range
  pub end : read.transfer.object.position + read.transfer.len < 2 ^ 32
  pub few : read.transfer.object.length < 2 ^ 32
  pub limit : IsWithinLimit read.tagging read.transfer

-- of the new data of a write, what is made of so much of the old: as it is up to the position, and from there on with the
-- written bytes put in
abbrev pub put_so_far : Transfer → List ℕ → List ℕ → List ℕ
put_so_far t content range =
    if nat_lt t.object.position (length content) then overwritten content t.object.position (take t.len range) else content
