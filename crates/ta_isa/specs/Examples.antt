-- Examples of the definitions, worked out by hand.
use Rattle.std.specs.Prelude.{◌≡◌, ℕ, true, false, List, [], ◌∷◌, ◌++◌, take, slice_set, Some, None, Ok, Err}
use Rattle.ta_isa.specs.declared.image.Instr.{Instr}
use Rattle.ta_isa.specs.declared.image.Image.{Image}
use Rattle.ta_isa.specs.declared.image_fault.ImageFault.TheVariants.{BadHeader, TooLarge, BadEntry, BadOp}
use Rattle.ta_isa.specs.declared.row.Operand.TheVariants.{Unused}
use Rattle.ta_isa.specs.declared.row.Immediate.TheVariants as immediate
use Rattle.ta_isa.specs.InstructionTable.{row, row_of, is_instruction}
use Rattle.ta_isa.specs.Spelling.{spelling}
use Rattle.ta_isa.specs.Reading.{decoded}

abbrev pub instr : ℕ → ℕ → ℕ → ℕ → ℕ → Instr
instr op d a b imm = record { op = op; d = d; a = a; b = b; imm = imm }

-- an application whose invoke answers the sum of two numbers in the value that they came in
abbrev pub sum_image : Image
sum_image = record {
  flags = 0;
  pages = 1;
  entries = 0 ∷ 0 ∷ 1 ∷ 0 ∷ 0 ∷ [];
  code =
      instr 0x18 0 0 0 0
      ∷ instr 0x01 0 0 0 0
      ∷ instr 0x18 0 0 0 3
      ∷ instr 0x03 1 0 1 0
      ∷ instr 0x01 0 0 0 0
      ∷ instr 0x18 0 0 0 4
      ∷ instr 0x18 0 0 0 0
      ∷ [];
}

-- its bytes
abbrev pub sum_bytes : List ℕ
sum_bytes =
    0x4f ∷ 0x54 ∷ 0x54 ∷ 0x41 ∷ 0 ∷ 0 ∷ 0 ∷ 0 ∷ 1 ∷ 0 ∷ 0 ∷ 0 ∷ 7 ∷ 0 ∷ 0 ∷ 0
    ∷ 0 ∷ 0 ∷ 0 ∷ 0 ∷ 0 ∷ 0 ∷ 0 ∷ 0 ∷ 1 ∷ 0 ∷ 0 ∷ 0 ∷ 0 ∷ 0 ∷ 0 ∷ 0 ∷ 0 ∷ 0 ∷ 0 ∷ 0
    ∷ 0x18 ∷ 0 ∷ 0 ∷ 0 ∷ 0 ∷ 0 ∷ 0 ∷ 0
    ∷ 0x01 ∷ 0 ∷ 0 ∷ 0 ∷ 0 ∷ 0 ∷ 0 ∷ 0
    ∷ 0x18 ∷ 0 ∷ 0 ∷ 0 ∷ 3 ∷ 0 ∷ 0 ∷ 0
    ∷ 0x03 ∷ 1 ∷ 0 ∷ 1 ∷ 0 ∷ 0 ∷ 0 ∷ 0
    ∷ 0x01 ∷ 0 ∷ 0 ∷ 0 ∷ 0 ∷ 0 ∷ 0 ∷ 0
    ∷ 0x18 ∷ 0 ∷ 0 ∷ 0 ∷ 4 ∷ 0 ∷ 0 ∷ 0
    ∷ 0x18 ∷ 0 ∷ 0 ∷ 0 ∷ 0 ∷ 0 ∷ 0 ∷ 0
    ∷ []

-- the same with one byte changed
abbrev pub changed : ℕ → ℕ → List ℕ
changed place byte = slice_set sum_bytes place byte

pub record Examples : Type 0 where
  pub spelled : spelling sum_image ≡ sum_bytes
  pub read : decoded sum_bytes ≡ Ok sum_image
  pub nothing : decoded [] ≡ Err (BadHeader 0)
  pub cut : decoded (take 35 sum_bytes) ≡ Err (BadHeader 0)
  pub magic : decoded (changed 3 0x42) ≡ Err (BadHeader 0)
  pub most_pages : decoded (changed 8 64) ≡ Ok (record sum_image { pages = 64 })
  pub flags : decoded (changed 4 0x1c) ≡ Ok (record sum_image { flags = 0x1c })
  pub flag_below : decoded (changed 4 2) ≡ Err (BadHeader 1)
  pub flag_above : decoded (changed 4 0x20) ≡ Err (BadHeader 1)
  pub flags_first : decoded (slice_set (changed 4 1) 8 0) ≡ Err (BadHeader 1)
  pub no_page : decoded (changed 8 0) ≡ Err (BadHeader 2)
  pub many_pages : decoded (changed 8 65) ≡ Err (BadHeader 2)
  pub too_large : decoded (slice_set (changed 12 1) 13 0x20) ≡ Err TooLarge
  pub no_count : decoded (changed 12 0) ≡ Err (BadHeader 3)
  pub longer : decoded (sum_bytes ++ 0 ∷ []) ≡ Err (BadHeader 3)
  pub entry : decoded (changed 24 7) ≡ Err (BadEntry 2)
  pub first_bad_entry : decoded (slice_set (changed 24 7) 32 7) ≡ Err (BadEntry 2)
  pub last_entry : decoded (changed 35 1) ≡ Err (BadEntry 4)
  pub no_operation : decoded (changed 44 0) ≡ Err (BadOp 1)
  pub register_16 : decoded (changed 45 16) ≡ Err (BadOp 1)
  pub unnamed_field : decoded (changed 46 1) ≡ Err (BadOp 1)
  pub system_call : decoded (changed 56 20) ≡ Err (BadOp 2)
  pub past_the_operations : decoded (changed 84 0x19) ≡ Err (BadOp 6)
  pub first_bad_operation : decoded (slice_set (changed 44 0) 36 0) ≡ Err (BadOp 0)
  pub no_row : row_of 0 ≡ None
  pub last_row : row_of 0x18 ≡ Some (row Unused Unused Unused immediate.SystemCall)
  pub past_last_row : row_of 0x19 ≡ None
  pub target : is_instruction 7 (instr 0x11 0 1 2 6) ≡ true
  pub target_at_count : is_instruction 7 (instr 0x11 0 1 2 7) ≡ false
  pub last_system_call : is_instruction 7 (instr 0x18 0 0 0 19) ≡ true
  pub past_last_system_call : is_instruction 7 (instr 0x18 0 0 0 20) ≡ false
