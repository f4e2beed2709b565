-- The files of the normal world, and which of them are open: finite maps, as lists of pairs in rising order.
use Rattle.std.specs.Prelude.{ℕ, zero, suc, ◌+◌, ◌-◌, is_some, if◌then◌else◌, List, [], ◌++◌, length, replicate, Option}
use Rattle.std.specs.BTreeMap.{insert_entry, is_at}
use Rattle.std.specs.Cmp.Lexicographic.{slice_cmp}
use Rattle.std.specs.Map.{lookup, remove_entry, set_value}
use Rattle.std.specs.declared.cmp.Ordering.{Ordering}
use Rattle.std.specs.Ordering.{nat_cmp}
use Rattle.base.specs.Bytes.{overwritten}

-- from names to bytes, and from descriptors to names
abbrev pub Files : Type 0
Files = List (List ℕ × List ℕ)

abbrev pub Descriptors : Type 0
Descriptors = List (ℕ × List ℕ)

-- the order of names: that of their bytes, as in a dictionary
abbrev pub name_cmp : List ℕ → List ℕ → Ordering
name_cmp = slice_cmp nat_cmp

-- ---- files

-- the bytes of the file of a name
abbrev pub bytes_of : Files → List ℕ → Option (List ℕ)
bytes_of files name = lookup (is_at (name_cmp name)) files

-- the files with an empty one of this name
abbrev pub with_empty : Files → List ℕ → Files
with_empty files name = insert_entry name_cmp files name []

-- the files, of which the one of this name has these bytes now
abbrev pub with_bytes : Files → List ℕ → List ℕ → Files
with_bytes files name bytes = set_value (is_at (name_cmp name)) files bytes

-- the files without the one of this name
abbrev pub without_file : Files → List ℕ → Files
without_file files name = remove_entry (is_at (name_cmp name)) files

-- a file with zeros behind its bytes, up to a length
abbrev pub lengthened : List ℕ → ℕ → List ℕ
lengthened bytes len = bytes ++ replicate (len - length bytes) 0

-- a file with bytes written from an offset on. A gap before them has zeros
abbrev pub file_after : List ℕ → ℕ → List ℕ → List ℕ
file_after bytes offset new = overwritten (lengthened bytes (offset + length new)) offset new

-- ---- descriptors

-- the name that a descriptor stands for
abbrev pub name_of : Descriptors → ℕ → Option (List ℕ)
name_of descriptors fd = lookup (is_at (nat_cmp fd)) descriptors

-- the descriptors with one that stands for a name, and without one
abbrev pub with_descriptor : Descriptors → ℕ → List ℕ → Descriptors
with_descriptor descriptors fd name = insert_entry nat_cmp descriptors fd name

abbrev pub without_descriptor : Descriptors → ℕ → Descriptors
without_descriptor descriptors fd = remove_entry (is_at (nat_cmp fd)) descriptors

-- the first free descriptor from one on, and of so many the one behind them
abbrev pub free_from : Descriptors → ℕ → ℕ → ℕ
free_from descriptors zero fd = fd
free_from descriptors (suc more) fd = if is_some (name_of descriptors fd) then free_from descriptors more (suc fd) else fd

-- the lowest free descriptor. Where those below their number are all in use, no other is, so that number is free
abbrev pub lowest_free : Descriptors → ℕ
lowest_free descriptors = free_from descriptors (length descriptors) 0
