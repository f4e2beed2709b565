-- What a processor was told last, as a history goes on.
use Rattle.std.proofs.Common.{◌≡◌, ℕ, List, [], ◌∷◌, ◌++◌, refl}
use Rattle.std.specs.Prelude.{◌==◌, if◌then◌else◌, replicate}
use Rattle.event_journal.specs.declared.event.Event.{Event}
use Rattle.event_journal.specs.declared.event.Event.TheVariants.{Entry, Exit}
use Rattle.ns_ram.specs.declared.read.Read.{Read}
use Rattle.play_model.specs.Play.{last_answer, told_last}
use Rattle.smc_abi.specs.declared.regs.Regs.{Regs}

-- among events, and then among others behind them
pub told_last-append : (cpu : ℕ) (regs : List ℕ) (events more : List Event)
    → told_last cpu regs (events ++ more) ≡ told_last cpu (told_last cpu regs events) more
told_last-append cpu regs [] more = refl
told_last-append cpu regs (Entry came given steps reads ∷ events) more = told_last-append cpu regs events more
told_last-append cpu regs (Exit went told ∷ events) more =
    told_last-append cpu (if went == cpu then told.a else regs) events more

-- an entry tells nothing
pub last_answer-entry : (history : List Event) (came : ℕ) (given : Regs) (steps : ℕ) (reads : List Read) (cpu : ℕ)
    → last_answer (history ++ Entry came given steps reads ∷ []) cpu ≡ last_answer history cpu
last_answer-entry history came given steps reads cpu =
    told_last-append cpu (replicate 8 0) history (Entry came given steps reads ∷ [])

-- an exit tells its own processor
pub last_answer-exit : (history : List Event) (went : ℕ) (told : Regs) (cpu : ℕ)
    → last_answer (history ++ Exit went told ∷ []) cpu ≡ (if went == cpu then told.a else last_answer history cpu)
last_answer-exit history went told cpu = told_last-append cpu (replicate 8 0) history (Exit went told ∷ [])
