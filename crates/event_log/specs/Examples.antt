-- The definitions on small inputs.
use Rattle.std.specs.Prelude.{◌≡◌, ℕ, List, [], ◌∷◌, Some, None, replicate}
use Rattle.event_journal.specs.declared.event.Event.{Event}
use Rattle.event_journal.specs.declared.event.Event.TheVariants.{Entry, Exit}
use Rattle.smc_abi.specs.declared.regs.Regs.{Regs}
use Rattle.event_log.specs.LastEntry.{last_entry}

abbrev pub zeros : Regs
zeros = record { a = replicate 8 0 }

-- a processor comes in for so many steps, and reads nothing
abbrev pub enters : ℕ → ℕ → Event
enters cpu steps = Entry cpu zeros steps []

-- 0 comes in and goes out, 1 comes in, 0 comes in again, 1 goes out
abbrev pub events : List Event
events = enters 0 1 ∷ Exit 0 zeros ∷ enters 1 2 ∷ enters 0 3 ∷ Exit 1 zeros ∷ []

pub record Examples : Type 0 where
  pub of_none : last_entry 0 [] ≡ None
  pub of_the_latest : last_entry 0 events ≡ Some (enters 0 3)
  pub of_one_that_has_gone : last_entry 1 events ≡ Some (enters 1 2)
  pub of_one_that_never_came : last_entry 2 events ≡ None
