-- The addresses of a machine. Those of the instance's memory begin at 0, and those of the buffer of
-- parameter k at 0x10000000 * (k + 1): the highest hexadecimal digit names the range, and the others
-- the place in it.
use Rattle.std.specs.Prelude.{ℕ, zero, suc, ◌+◌, ◌/◌, ◌%◌, ◌==◌, ◌&&◌, ◌||◌, nat_le, Bool, List, [], ◌∷◌, map, Option, slice_get, slice_index_or}
use Rattle.ta_step.specs.State.{State}
use Rattle.base.specs.Bytes.{has_bytes, written}
use Rattle.ta_step.specs.Bytes.{word_at}
use Rattle.ta_step.specs.Parameters.{four, with_param, buffer, with_buffer}

-- the bytes of each range: the instance's memory, then the parameters' buffers
abbrev pub ranges : State → List (List ℕ)
ranges s = s.memory ∷ map buffer (four s.params)

-- the machine with other bytes in a range
abbrev pub with_range : State → ℕ → List ℕ → State
with_range s zero bytes = record s { memory = bytes }
with_range s (suc number) bytes =
    let p = slice_index_or (four s.params) number s.params.p0 in
    record s { params = with_param s.params number (with_buffer p bytes) }

-- the bytes of the range that an address names, none where it names none
abbrev pub range_at : State → ℕ → List ℕ
range_at s addr = slice_index_or (ranges s) (addr / 0x10000000) []

-- so many bytes from an address on are all in one range
abbrev pub is_inside : State → ℕ → ℕ → Bool
is_inside s addr count = has_bytes (range_at s addr) (addr % 0x10000000) count

-- the same, and their addresses too; no bytes are, at every address
abbrev pub is_range : State → ℕ → ℕ → Bool
is_range s addr count = (count == 0) || (nat_le (addr % 0x10000000 + count) 0x10000000 && is_inside s addr count)

abbrev pub load : State → ℕ → Option ℕ
load s addr = slice_get (range_at s addr) (addr % 0x10000000)

abbrev pub load_word : State → ℕ → Option ℕ
load_word s addr = word_at (range_at s addr) (addr % 0x10000000)

-- the machine with bytes written from an address on, where they are all in one range
abbrev pub store : State → ℕ → List ℕ → State
store s addr new = with_range s (addr / 0x10000000) (written (range_at s addr) (addr % 0x10000000) new)
