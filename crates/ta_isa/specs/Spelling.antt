-- Valid images, and the one spelling of each. The format is this project's own.
use Rattle.std.specs.Prelude.{◌≡◌, ℕ, ◌==◌, ◌<◌, ◌≤◌, Bool, IsTrue, List, [], ◌∷◌, ◌++◌, length, All}
use Rattle.std.specs.Int.RustNames.{bit_and}
use Rattle.std.specs.List.{flat_map}
use Rattle.byteorder.specs.Endian.{little_bytes}
use Rattle.ta_isa.specs.declared.image.Instr.{Instr}
use Rattle.ta_isa.specs.declared.image.Image.{Image}
use Rattle.ta_isa.specs.InstructionTable.{is_instruction}

-- a word of flags has only bits that an image may have: bits 2 to 4
unfoldable pub are_allowed : ℕ → Bool
are_allowed flags = bit_and 0x1c flags == flags

-- an image that has a spelling, and that an application may be made of
pub record IsValid (image : Image) : Type 0 where
  pub flags : IsTrue (are_allowed image.flags)
  pub some_page : 1 ≤ image.pages
  pub most_pages : image.pages ≤ 64
  pub some_instruction : 1 ≤ length image.code
  pub most_instructions : length image.code ≤ 8192
  pub five_entries : length image.entries ≡ 5
  pub entries : All (λ entry. entry < length image.code) image.entries
  pub code : All (λ i. IsTrue (is_instruction (length image.code) i)) image.code

-- `OTTA`
abbrev pub magic_bytes : List ℕ
magic_bytes = 0x4f ∷ 0x54 ∷ 0x54 ∷ 0x41 ∷ []

-- four bytes, the lowest first
abbrev pub word : ℕ → List ℕ
word n = little_bytes 4 n

-- eight bytes: the operation, its fields d, a and b, and imm as a word
abbrev pub instruction : Instr → List ℕ
instruction i = i.op ∷ i.d ∷ i.a ∷ i.b ∷ word i.imm

-- the magic, flags, pages, the count of instructions, five entry points, and the instructions
abbrev pub spelling : Image → List ℕ
spelling image =
    magic_bytes ++ word image.flags ++ word image.pages ++ word (length image.code) ++ flat_map word image.entries ++ flat_map instruction image.code
