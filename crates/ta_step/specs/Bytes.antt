-- Words in a list of bytes.
use Rattle.std.specs.Prelude.{ℕ, if◌then◌else◌, List, drop, Option, Some, None}
use Rattle.std.specs.Int.{w32, from_le_bytes}
pub use Rattle.base.specs.Bytes.{has_bytes, overwritten, written}

-- the word from a place on, its lowest byte first, if its four bytes are all there
abbrev pub word_at : List ℕ → ℕ → Option ℕ
word_at bytes place = if has_bytes bytes place 4 then Some (from_le_bytes w32 (drop place bytes)) else None
