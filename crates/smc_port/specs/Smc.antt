-- An SMC as it was made, and what it does to a port.
use Rattle.std.specs.Prelude.{◌≡◌, ℕ, List, [], ◌∷◌, ◌++◌}
use Rattle.std.specs.List.{AllByRecursion}
use Rattle.ns_ram.specs.declared.read.Read.{Read}
use Rattle.ns_ram.specs.Reads.{HoldsReads}
use Rattle.ns_ram.specs.Writes.{IsWriteOfRam, Write, lane_after}
use Rattle.smc_abi.specs.declared.regs.Regs.{Regs}

-- the registers that it was made with, what was read of RAM, the registers after it, and what was written to RAM
pub record Smc : Type 0 where
  pub regs : Regs
  pub reads : List Read
  pub answer : Regs
  pub writes : List Write

-- from this RAM to that one: what was read stood there, what was written lies in RAM, and RAM has changed by the
-- writes alone, in their order
pub record Changes (ram : List ℕ) (smc : Smc) (new_ram : List ℕ) : Type 0 where
  pub read : HoldsReads ram smc.reads
  pub inside : AllByRecursion IsWriteOfRam smc.writes
  pub written : new_ram ≡ lane_after ram smc.writes

-- an SMC with these registers was answered so: it stands behind those made before, and RAM is changed by it
pub record Makes (ram : List ℕ) (made : List Smc) (regs answer : Regs) (new_ram : List ℕ) (new_made : List Smc) : Type 0 where
  pub smc : Smc
  pub with : smc.regs ≡ regs
  pub answered : smc.answer ≡ answer
  pub last : new_made ≡ made ++ smc ∷ []
  pub changes : Changes ram smc new_ram
