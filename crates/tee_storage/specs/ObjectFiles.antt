-- The file of an object in the storage of the normal world: its name, its header, and the pieces in which its
-- bytes are carried. Format 1 has the header and the data, format 2 a tag behind them. This project's own.
use Rattle.std.specs.Prelude.{ℕ, zero, suc, ◌+◌, ◌-◌, ◌/◌, ◌&&◌, nat_le, nat_lt, min, Bool, List, [], ◌∷◌, ◌++◌, drop, take, Option, Some, None, if◌then◌else◌}
use Rattle.std.specs.Option.{option_map}
use Rattle.std.specs.Str.{bytes_eq}
use Rattle.std.specs.Int.{w32, to_le_bytes, from_le_bytes}
use Rattle.hex.specs.Hex.{encode_lower}
use Rattle.tee_storage.specs.declared.handle.FileFormat.{FileFormat}
use Rattle.tee_storage.specs.declared.handle.FileFormat.TheVariants.{Untagged, Tagged}
use Rattle.tee_storage.specs.declared.object_file.Header.{Header}

-- an id may have so many bytes
abbrev pub is_id_length : ℕ → Bool
is_id_length len = nat_lt 0 len && nat_le len 64

-- the application's UUID, a slash and the id, in lower-case hexadecimal digits
abbrev pub file_name : List ℕ → List ℕ → List ℕ
file_name uuid id = encode_lower uuid ++ 47 ∷ encode_lower id

-- the four bytes OTO1, with which a file of format 1 begins
abbrev pub first_magic : List ℕ
first_magic = 0x4f ∷ 0x54 ∷ 0x4f ∷ 0x31 ∷ []

-- the four bytes OTO2, with which one of format 2 begins, as all files that are written
abbrev pub magic : List ℕ
magic = 0x4f ∷ 0x54 ∷ 0x4f ∷ 0x32 ∷ []

-- the number of a format
abbrev pub format_number : FileFormat → ℕ
format_number Untagged = 1
format_number Tagged = 2

-- the format of a file that begins with these four bytes
abbrev pub format_of : List ℕ → Option FileFormat
format_of bytes =
    if bytes_eq bytes first_magic then Some Untagged else if bytes_eq bytes magic then Some Tagged else None

-- what the file of an object of so many bytes begins with: eight bytes
abbrev pub header : ℕ → List ℕ
header len = magic ++ to_le_bytes w32 len

-- what eight bytes say as a header, if they are one: the format and the length
abbrev pub header_of : List ℕ → Option Header
header_of bytes =
    let len = from_le_bytes w32 (drop 4 bytes) in
    if nat_le len 32768
    then option_map (λ (format : FileFormat). record { format = format; length = len }) (format_of (take 4 bytes))
    else None

-- where an object's byte stands in its file
abbrev pub offset_of : ℕ → ℕ
offset_of place = 8 + place

-- bytes that are carried in one request: where the first stands among all that are to be carried, and how many
pub record Piece : Type 0 where
  pub start : ℕ
  pub len : ℕ

-- so many pieces, the first from a place on, of so many bytes in all; a request carries at most 3584
abbrev pub cut : ℕ → ℕ → ℕ → List Piece
cut zero start total = []
cut (suc count) start total =
    let len = min 3584 (total - start) in
    record { start = start; len = len } ∷ cut count (start + len) total

-- full pieces and a rest, from a place on, of so many bytes in all
abbrev pub pieces_from : ℕ → ℕ → List Piece
pieces_from start total = cut ((total - start + 3583) / 3584) start total

abbrev pub pieces : ℕ → List Piece
pieces total = pieces_from 0 total

-- the bytes of a piece
abbrev pub bytes_of : List ℕ → Piece → List ℕ
bytes_of range piece = take piece.len (drop piece.start range)
