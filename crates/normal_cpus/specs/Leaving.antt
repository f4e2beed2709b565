-- A processor goes out under a turn of its pass.
use Rattle.std.specs.Prelude.{◌≡◌, ℕ, List, length, Some}
use Rattle.core_lock.specs.Passes.{number, seen}
use Rattle.event_journal.specs.declared.event.Event.{Event}
use Rattle.event_journal.specs.declared.event.Event.TheVariants.{Exit}
use Rattle.kernel_model.specs.Application.{Booted}
use Rattle.kernel_model.specs.Exit.{Exited}
use Rattle.kernel_model.specs.History.{exit_after}
use Rattle.kernel_state.specs.Leaving.{CanLeaveAfter}
use Rattle.kernel_state.specs.declared.work.Ran.{Ran}
use Rattle.ns_ram.specs.Writes.{lane_after}
use Rattle.normal_cpus.specs.Seeing.{HasMade, IsOpenAt}
use Rattle.normal_cpus.specs.Sharing.{CpuPass}
use Rattle.normal_cpus.specs.declared.cpu_answer.CpuAnswer.{CpuAnswer}

-- it is the work of the pass's open entry, with its granted steps done
pub record CanGoOut (boot : Booted) (pass : CpuPass) (ran : Ran) : Type 0 where
  pub cpu : ran.cpu ≡ number pass
  pub open_entry : IsOpenAt (number pass) ran.entry_at (seen pass)
  pub fits : CanLeaveAfter boot (seen pass) ran

-- it has gone out: its exit is the last event that the pass has seen, at the place of the answer, and answer and writes are those of
-- the kernel's exit there. Its open entry stands at the place of the answer, with no event of the processor between
pub record GoesOut (boot : Booted) (old new : CpuPass) (ran : Ran) (lane now : List ℕ) (answer : CpuAnswer) : Type 0 where
  pub before : List Event
  pub makes : HasMade boot old new before (Exit (number old) answer.regs)
  pub exit_at : answer.exit_at ≡ length before
  pub entry_at : answer.entry_at ≡ ran.entry_at
  pub open_entry : IsOpenAt (number old) answer.entry_at before
  pub exited : Exited
  pub is_exit : exit_after boot before (number old) ≡ Some exited
  pub answer_is : answer.regs.a ≡ exited.regs
  pub writes : now ≡ lane_after lane exited.writes
