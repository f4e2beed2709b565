-- Which image bytes are read as, and which of their faults comes first.
use Rattle.std.specs.Prelude.{◌≡◌, ℕ, ◌+◌, ◌*◌, ◌-◌, ◌/◌, ◌==◌, not, if◌then◌else◌, ◌||◌, nat_eq, nat_lt, nat_le, List, [], ◌∷◌, length, drop, map, position, slice_index, Option, Some, None, Result, Ok, Err, ◌⊎◌}
use Rattle.std.specs.Option.{option_map, option_or}
use Rattle.std.specs.List.{range_with_len, starts_with}
use Rattle.byteorder.specs.Endian.{little_number}
use Rattle.ta_isa.specs.declared.image.Instr.{Instr}
use Rattle.ta_isa.specs.declared.image.Image.{Image}
use Rattle.ta_isa.specs.declared.image_fault.ImageFault.{ImageFault}
use Rattle.ta_isa.specs.declared.image_fault.ImageFault.TheVariants.{BadHeader, TooLarge, BadEntry, BadOp, Memory}
use Rattle.ta_isa.specs.InstructionTable.{is_instruction}
use Rattle.ta_isa.specs.Spelling.{are_allowed, magic_bytes}

-- the word that stands at a place
unfoldable pub word_at : ℕ → List ℕ → ℕ
word_at place bytes = little_number 4 (drop place bytes)

-- the instruction whose eight bytes stand in front
unfoldable pub front_instruction : List ℕ → Instr
front_instruction bytes = record {
  op = slice_index bytes 0;
  d = slice_index bytes 1;
  a = slice_index bytes 2;
  b = slice_index bytes 3;
  imm = word_at 4 bytes;
}

-- how many instructions the header says that there are
abbrev pub count_of : List ℕ → ℕ
count_of bytes = word_at 12 bytes

-- the five entry points
abbrev pub entries_of : List ℕ → List ℕ
entries_of bytes = word_at 16 bytes ∷ word_at 20 bytes ∷ word_at 24 bytes ∷ word_at 28 bytes ∷ word_at 32 bytes ∷ []

-- the instruction of a number, behind the header
abbrev pub instruction_at : List ℕ → ℕ → Instr
instruction_at bytes number = front_instruction (drop (36 + 8 * number) bytes)

-- the whole instructions behind the header
abbrev pub code_of : List ℕ → List Instr
code_of bytes = map (instruction_at bytes) (range_with_len 0 ((length bytes - 36) / 8))

-- the image whose fields stand at their places: flags at 4, pages at 8, the count at 12, five entry points from 16
abbrev pub image_of : List ℕ → Image
image_of bytes = record { flags = word_at 4 bytes; pages = word_at 8 bytes; entries = entries_of bytes; code = code_of bytes }

-- the first fault of a header
abbrev pub header_fault : List ℕ → Option ImageFault
header_fault bytes =
    if nat_lt (length bytes) 36 || not (starts_with nat_eq bytes magic_bytes) then Some (BadHeader 0) else
    if not (are_allowed (word_at 4 bytes)) then Some (BadHeader 1) else
    if word_at 8 bytes == 0 || nat_lt 64 (word_at 8 bytes) then Some (BadHeader 2) else
    if nat_lt 8192 (count_of bytes) then Some TooLarge else
    if count_of bytes == 0 || not (length bytes == 36 + 8 * count_of bytes) then Some (BadHeader 3) else
    option_map BadEntry (position (nat_le (count_of bytes)) (entries_of bytes))

-- the first bad instruction of an image of so many
abbrev pub first_bad : ℕ → List Instr → Option ℕ
first_bad count code = position (λ i. not (is_instruction count i)) code

-- the first fault of the bytes: one of the header, or the first bad instruction
abbrev pub fault_of : List ℕ → Option ImageFault
fault_of bytes = option_or (header_fault bytes) (option_map BadOp (first_bad (count_of bytes) (code_of bytes)))

-- what decoding answers: the first fault, or the image
abbrev pub answer : Option ImageFault → Image → Result Image ImageFault
answer None image = Ok image
answer (Some fault) image = Err fault

-- the image of the bytes, or their first fault
abbrev pub decoded : List ℕ → Result Image ImageFault
decoded bytes = answer (fault_of bytes) (image_of bytes)

-- the result is this one, or memory ran out
abbrev pub IsUnlessMemory : Result Image ImageFault → Result Image ImageFault → Type 0
IsUnlessMemory result wanted = (result ≡ wanted) ⊎ (result ≡ Err Memory)
