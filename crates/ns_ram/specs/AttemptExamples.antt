-- Steps that may refuse, at small inputs.
use Rattle.std.specs.Prelude.{◌≡◌, ℕ, ◌+◌, nat_lt, [], ◌∷◌, Some, None, Ok, Err, slice_index}
use Rattle.std.specs.List.{slice_get}
use Rattle.ns_ram.specs.Attempt.{Attempt, ◌>>=◌, ◌>>◌, faultless, known, need, passes, read}
use Rattle.ns_ram.specs.Examples.{read_of}
use Rattle.ns_ram.specs.Reader.{over_lane, reading, take_bytes}

-- the byte behind one that counts one or two bytes, of which it is the second, or else the refusal 1 or 2
abbrev pub second_byte : ℕ → Attempt ℕ ℕ
second_byte addr = do
  count ← read (take_bytes addr 1)
  need (nat_lt 0 (slice_index count 0)) 1
  bytes ← read (take_bytes (addr + 1) (slice_index count 0))
  known (slice_get bytes 1) 2

-- that byte and one more, or else the refusal 3
abbrev pub second_byte_and_one : ℕ → Attempt ℕ ℕ
second_byte_and_one addr = do
  byte ← faultless (second_byte addr) 3
  passes (byte + 1)

pub record AttemptExamples : Type 0 where
  pub passed : reading (second_byte 0x40000000) (read_of 0x40000000 (2 ∷ []) ∷ read_of 0x40000001 (7 ∷ 8 ∷ []) ∷ []) ≡ Some (Ok 8)
  pub needed : reading (second_byte 0x40000000) (read_of 0x40000000 (0 ∷ []) ∷ []) ≡ Some (Err 1)
  pub unknown : reading (second_byte 0x40000000) (read_of 0x40000000 (1 ∷ []) ∷ read_of 0x40000001 (7 ∷ []) ∷ []) ≡ Some (Err 2)
  pub reads_on : reading (second_byte 0x40000000) (read_of 0x40000000 (0 ∷ []) ∷ read_of 0x40000001 (7 ∷ []) ∷ []) ≡ None
  pub passed_on : reading (second_byte_and_one 0x40000000) (read_of 0x40000000 (2 ∷ []) ∷ read_of 0x40000001 (7 ∷ 8 ∷ []) ∷ []) ≡ Some (Ok 9)
  pub refused : reading (second_byte_and_one 0x40000000) (read_of 0x40000000 (0 ∷ []) ∷ []) ≡ Some (Err 3)
  pub in_a_lane : over_lane (second_byte 0x40000000) (1 ∷ 7 ∷ []) []
      ≡ Some (Err 2, read_of 0x40000000 (1 ∷ []) ∷ read_of 0x40000001 (7 ∷ []) ∷ [])
