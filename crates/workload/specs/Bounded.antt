-- How little the calls of a made trace read: an argument of at most two parameters, none of which names memory.
use Rattle.std.specs.Prelude.{◌≡◌, ℕ, ◌+◌, ◌*◌, ◌≤◌, List, length, drop, All, Some, slice_get}
use Rattle.byteorder.specs.Endian.{little_number}
use Rattle.trace_text.specs.declared.item.Item.{Item}
use Rattle.trace_text.specs.declared.item.Item.TheVariants.{Smc, Enter, Leave, Write, Show}
use Rattle.trace_text.specs.declared.item.Reg.TheVariants.{Num}
use Rattle.workload.specs.Work.{call_registers, made_items}

-- the number of parameters that a head says
abbrev pub count_in : List ℕ → ℕ
count_in bytes = little_number 4 (drop 28 bytes)

-- a whole argument: a head, which says that there are at most two parameters, and they
pub record IsShortArgument (bytes : List ℕ) : Type 0 where
  pub few : count_in bytes ≤ 2
  pub whole : length bytes ≡ 32 + 32 * count_in bytes

-- calls, of which one with an argument has it at 40000000, and whole arguments of at most 96 bytes written there
abbrev pub ReadsLittle : Item → Type 0
ReadsLittle (Smc cpu steps regs) = slice_get regs 0 ≡ Some (Num 0x3200_0004) → regs ≡ call_registers
ReadsLittle (Enter cpu steps regs) = ⊥
ReadsLittle (Leave cpu) = ⊥
ReadsLittle (Write cpu addr bytes) = (addr ≡ 0x4000_0000) × IsShortArgument bytes × (length bytes ≤ 96)
ReadsLittle (Show cpu addr len) = ⊥

abbrev pub EveryTraceReadsLittle : Type 0
EveryTraceReadsLittle = (seed count : ℕ) → All ReadsLittle (made_items seed count)
