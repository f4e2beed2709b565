-- The header that stands in front of the instructions.
use Rattle.std.specs.Prelude.{ℕ, List}
use Rattle.ta_isa.specs.declared.decode.Header.{Header}
use Rattle.ta_isa.specs.Reading.{word_at, count_of, entries_of}

abbrev pub header_of : List ℕ → Header
header_of bytes = record { flags = word_at 4 bytes; pages = word_at 8 bytes; count = count_of bytes; entries = entries_of bytes }
