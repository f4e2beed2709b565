-- The definitions on small inputs.
use Rattle.std.specs.Prelude.{◌≡◌, List, [], ◌∷◌, replicate}
use Rattle.ns_ram.specs.declared.read.Read.{Read}
use Rattle.smc_abi.specs.declared.regs.Regs.{Regs}
use Rattle.event_journal.specs.declared.event.Event.TheVariants.{Entry, Exit}
use Rattle.event_journal.specs.Event.{copied_by}
use Rattle.event_journal.specs.Journal.{copied_bytes}

abbrev pub zeros : Regs
zeros = record { a = replicate 8 0 }

-- two bytes are read, and then one
abbrev pub reads : List Read
reads = record { addr = 0x40000000; bytes = 1 ∷ 2 ∷ [] } ∷ record { addr = 0x40000007; bytes = 3 ∷ [] } ∷ []

pub record Examples : Type 0 where
  pub by_an_entry : copied_by (Entry 0 zeros 1000 reads) ≡ 3
  pub by_no_reads : copied_by (Entry 0 zeros 1000 []) ≡ 0
  pub by_an_exit : copied_by (Exit 0 zeros) ≡ 0
  pub by_none : copied_bytes [] ≡ 0
  pub by_all : copied_bytes (Entry 0 zeros 1000 reads ∷ Exit 0 zeros ∷ Entry 1 zeros 1 reads ∷ []) ≡ 6
