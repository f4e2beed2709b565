-- The table of instructions: which fields an operation uses, and for what. This project's own.
use Rattle.std.specs.Prelude.{ℕ, ◌==◌, ◌^◌, ◌<◌, Bool, false, ◌&&◌, nat_lt, nat_le, List, [], ◌∷◌, Option, find}
use Rattle.std.specs.Option.{option_map, option_map_or}
use Rattle.ta_isa.specs.declared.image.Instr.{Instr}
use Rattle.ta_isa.specs.declared.row.Operand.{Operand}
use Rattle.ta_isa.specs.declared.row.Operand.TheVariants.{Unused, Register}
use Rattle.ta_isa.specs.declared.row.Immediate.{Immediate}
use Rattle.ta_isa.specs.declared.row.Immediate.TheVariants as immediate
use Rattle.ta_isa.specs.declared.row.Row.{Row}

-- what the fields d, a, b and imm hold
abbrev pub row : Operand → Operand → Operand → Immediate → Row
row d a b imm = record { d = d; a = a; b = b; imm = imm }

-- three registers, as of a sum
abbrev pub three : Row
three = row Register Register Register immediate.Unused

-- two registers to compare, and where to go on
abbrev pub branch : Row
branch = row Unused Register Register immediate.Target

-- an operation's number, and what its fields d, a, b and imm hold
abbrev pub instruction_table : List (ℕ × Row)
instruction_table =
    (0x01, row Register Unused Unused immediate.Number)  -- const
    ∷ (0x02, row Register Register Unused immediate.Unused)  -- move
    ∷ (0x03, three)  -- add
    ∷ (0x04, three)  -- sub
    ∷ (0x05, three)  -- mul
    ∷ (0x06, three)  -- div
    ∷ (0x07, three)  -- rem
    ∷ (0x08, three)  -- and
    ∷ (0x09, three)  -- or
    ∷ (0x0a, three)  -- xor
    ∷ (0x0b, three)  -- shl
    ∷ (0x0c, three)  -- shr
    ∷ (0x0d, row Register Register Unused immediate.Number)  -- loadb
    ∷ (0x0e, row Register Register Unused immediate.Number)  -- loadw
    ∷ (0x0f, row Unused Register Register immediate.Number)  -- storeb
    ∷ (0x10, row Unused Register Register immediate.Number)  -- storew
    ∷ (0x11, branch)  -- beq
    ∷ (0x12, branch)  -- bne
    ∷ (0x13, branch)  -- bltu
    ∷ (0x14, branch)  -- bgeu
    ∷ (0x15, row Unused Unused Unused immediate.Target)  -- jump
    ∷ (0x16, row Unused Unused Unused immediate.Target)  -- call
    ∷ (0x17, row Unused Unused Unused immediate.Unused)  -- ret
    ∷ (0x18, row Unused Unused Unused immediate.SystemCall)  -- sys
    ∷ []

-- the row of an operation, if it has one
abbrev pub row_of : ℕ → Option Row
row_of op = option_map (λ e. e.1) (find (λ e. e.0 == op) instruction_table)

-- what a field of eight bits may hold
abbrev pub is_operand : Operand → ℕ → Bool
is_operand Unused field = field == 0
is_operand Register field = nat_lt field 16

-- what the field imm may hold in an image of so many instructions
abbrev pub is_immediate : Immediate → ℕ → ℕ → Bool
is_immediate immediate.Unused field count = field == 0
is_immediate immediate.Number field count = nat_lt field (2 ^ 32)
is_immediate immediate.Target field count = nat_lt field count
is_immediate immediate.SystemCall field count = nat_le field 19

-- each field holds what the row says
abbrev pub follows_row : ℕ → Instr → Row → Bool
follows_row count i row =
    is_operand row.d i.d && is_operand row.a i.a && is_operand row.b i.b && is_immediate row.imm i.imm count

-- an instruction that an image of so many instructions may have
unfoldable pub is_instruction : ℕ → Instr → Bool
is_instruction count i = option_map_or (follows_row count i) (row_of i.op) false

-- each register field is below 16, and the other a number of 32 bits
pub record HasFields (i : Instr) : Type 0 where
  pub d : i.d < 16
  pub a : i.a < 16
  pub b : i.b < 16
  pub imm : i.imm < 2 ^ 32
