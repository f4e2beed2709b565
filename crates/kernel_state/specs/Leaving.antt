-- What an exit makes of a core and a lane: one event more, the definition's answer, and its writes alone.
use Rattle.std.specs.Prelude.{◌≡◌, ℕ, List, [], ◌∷◌, ◌++◌, Some, IsSomeAnd}
use Rattle.event_journal.specs.declared.event.Event.{Event}
use Rattle.event_journal.specs.declared.event.Event.TheVariants.{Exit}
use Rattle.kernel_model.specs.Application.{Booted}
use Rattle.kernel_model.specs.Exit.{Exited}
use Rattle.kernel_model.specs.History.{exit_after, kernel_after}
use Rattle.ns_ram.specs.Writes.{lane_after}
use Rattle.smc_abi.specs.declared.regs.Regs.{Regs}
use Rattle.kernel_state.specs.Meaning.{booted_of, events_of, terms_of}
use Rattle.kernel_state.specs.Work.{IsRanFor}
use Rattle.kernel_state.specs.declared.kernel_core.Core.{Core}
use Rattle.kernel_state.specs.declared.work.Ran.{Ran}

-- after this history its processor is inside, and this is the work of its open entry with the granted steps done
abbrev pub CanLeaveAfter : Booted → List Event → Ran → Type 0
CanLeaveAfter boot history ran = ∥ IsSomeAnd (kernel_after boot history) (λ kernel. IsRanFor kernel ran) ∥₁

abbrev pub CanLeave : Core → Ran → Type 0
CanLeave core ran = CanLeaveAfter (booted_of core) (events_of core) ran

-- it has gone out with these registers. The lane's bytes decide nothing of it
pub record HasLeft (old new : Core) (ran : Ran) (lane now : List ℕ) (told : Regs) : Type 0 where
  pub boot : booted_of new ≡ booted_of old
  pub terms : terms_of new ≡ terms_of old
  pub events : events_of new ≡ events_of old ++ Exit ran.cpu told ∷ []
  -- the exit of the kernel, its registers and its writes
  pub exited : Exited
  pub is_exit : exit_after (booted_of old) (events_of old) ran.cpu ≡ Some exited
  pub answer : told.a ≡ exited.regs
  pub writes : now ≡ lane_after lane exited.writes
