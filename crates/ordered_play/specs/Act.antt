-- What a trace has each of its processors do, in that processor's order. This project's own.
use Rattle.std.specs.Prelude.{ℕ, ◌==◌, List, [], ◌∷◌, filter}
use Rattle.std.specs.List.{flat_map}
use Rattle.trace_text.specs.declared.item.Item.{Item}
use Rattle.trace_text.specs.declared.item.Item.TheVariants as item
use Rattle.trace_text.specs.declared.item.Reg.{Reg}

-- what a processor does
pub data Act : Type 0 where
  -- it comes in with these registers, and is granted so many steps
  Comes : (steps : ℕ) (regs : List Reg) → Act
  -- it goes out
  Leaves : Act
  -- these bytes are written to its RAM
  Writes : (addr : ℕ) (bytes : List ℕ) → Act
  -- so many bytes of its RAM are printed
  Shows : (addr len : ℕ) → Act

-- the acts of an item: an SMC is an entry and then an exit
abbrev pub acts_of : Item → List Act
acts_of (item.Smc cpu steps regs) = Comes steps regs ∷ Leaves ∷ []
acts_of (item.Enter cpu steps regs) = Comes steps regs ∷ []
acts_of (item.Leave cpu) = Leaves ∷ []
acts_of (item.Write cpu addr bytes) = Writes addr bytes ∷ []
acts_of (item.Show cpu addr len) = Shows addr len ∷ []

-- the processor of an item
abbrev pub cpu_of_item : Item → ℕ
cpu_of_item (item.Smc cpu steps regs) = cpu
cpu_of_item (item.Enter cpu steps regs) = cpu
cpu_of_item (item.Leave cpu) = cpu
cpu_of_item (item.Write cpu addr bytes) = cpu
cpu_of_item (item.Show cpu addr len) = cpu

-- what a processor does by these items
abbrev pub acts_for : ℕ → List Item → List Act
acts_for cpu items = flat_map acts_of (filter (λ i. cpu_of_item i == cpu) items)
