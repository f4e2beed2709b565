-- The SMCs that a history holds, each with what was read of RAM and what was written there. This project's own.
use Rattle.std.specs.Prelude.{ℕ, List, [], ◌∷◌, ◌++◌, replicate}
use Rattle.std.specs.List.{flat_map, fold}
use Rattle.std.specs.Option.{option_map_or}
use Rattle.event_journal.specs.declared.event.Event.{Event}
use Rattle.event_journal.specs.declared.event.Event.TheVariants.{Entry, Exit}
use Rattle.kernel_model.specs.Application.{Booted}
use Rattle.kernel_model.specs.Exit.{Exited}
use Rattle.kernel_model.specs.History.{exit_after}
use Rattle.ns_ram.specs.Writes.{Write}
use Rattle.ns_ram.specs.declared.read.Read.{Read}
use Rattle.smc_abi.specs.declared.regs.Regs.{Regs}
use Rattle.smc_port.specs.Smc.{Smc}

-- what some events tell of SMCs: the registers and the reads of the last entry, and the SMCs that have ended
pub record Told : Type 0 where
  pub events : List Event
  pub regs : Regs
  pub reads : List Read
  pub smcs : List Smc

abbrev pub nothing_told : Told
nothing_told = record { events = []; regs = record { a = replicate 8 0 }; reads = []; smcs = [] }

-- what the exit of a processor writes behind these events
abbrev pub writes_behind : Booted → List Event → ℕ → List Write
writes_behind boot events cpu = option_map_or (λ (exited : Exited). exited.writes) (exit_after boot events cpu) []

-- the SMC of the last entry, which ends with this answer of a processor
abbrev pub smc_ended : Booted → Told → ℕ → Regs → Smc
smc_ended boot told cpu answer =
    record { regs = told.regs; reads = told.reads; answer = answer; writes = writes_behind boot told.events cpu }

-- one event more
abbrev pub told_with : Booted → Told → Event → Told
told_with boot told (Entry cpu regs steps reads) =
    record told { events = told.events ++ Entry cpu regs steps reads ∷ []; regs = regs; reads = reads }
told_with boot told (Exit cpu answer) =
    record told { events = told.events ++ Exit cpu answer ∷ []; smcs = told.smcs ++ smc_ended boot told cpu answer ∷ [] }

abbrev pub smcs_of_history : Booted → List Event → Told
smcs_of_history boot history = fold (told_with boot) nothing_told history

-- the SMCs of a history in which each entry is followed by its exit
abbrev pub smcs_in : Booted → List Event → List Smc
smcs_in boot history = (smcs_of_history boot history).smcs

-- ---- a history of one processor

-- an SMC of processor 0, which is granted 10,000 steps: its entry and its exit
abbrev pub events_of_smc : Smc → List Event
events_of_smc smc = Entry 0 smc.regs 10000 smc.reads ∷ Exit 0 smc.answer ∷ []

-- these SMCs and no others
abbrev pub history_of : List Smc → List Event
history_of smcs = flat_map events_of_smc smcs
