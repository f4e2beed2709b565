-- How the work of a processor of a trace has ended, over a history in which others may have come and gone since.
use Rattle.std.specs.Prelude.{◌≡◌, ◌<◌, ℕ, List, length, map, slice_get, Option, None, Some, Result, Ok, Err}
use Rattle.std.specs.Option.{option_and_then}
use Rattle.core_lock.specs.Passes.{IsIn, number, seen}
use Rattle.event_journal.specs.declared.event.Event.{Event}
use Rattle.kernel_model.specs.Turns.{cpu_of}
use Rattle.kernel_state.specs.declared.enter_refusal.EnterRefusal.{EnterRefusal}
use Rattle.kernel_state.specs.declared.enter_refusal.EnterRefusal.TheVariants.{Full, Memory}
use Rattle.normal_cpus.specs.Sharing.{IsCpuOf, boot_of}
use Rattle.normal_cpus.specs.declared.shared_core.SharedCore.{SharedCore}
use Rattle.ordered_play.specs.Blocks.{block_of}
use Rattle.ordered_play.specs.Merge.{IsDone, IsRefusedIf, Part, Setting, role_in, seat_of, seat_with}
use Rattle.ordered_play.specs.Part.{Role}
use Rattle.trace_text.specs.declared.trace.Trace.{Trace}
use Rattle.threads_play.specs.Ending.{EndsAs}
use Rattle.threads_play.specs.declared.ending.CpuEnd.{CpuEnd}

-- ---- one processor

-- where its entry was refused: at the end of what its pass has seen
abbrev pub place_by : List Event → Result (Unit {0}) EnterRefusal → Option ℕ
place_by seen (Ok done) = None
place_by seen (Err (Full copied more)) = Some (length seen)
place_by seen (Err Memory) = None

abbrev pub place_of : CpuEnd → Option ℕ
place_of end = place_by (seen end.pass) end.outcome

-- its part of the history, with a refused entry at this place if at any, leaves nothing to do; RAM and block are that part's
pub record HasEndedAt (of : Role) (end : CpuEnd) (place : Option ℕ) : Type 0 where
  pub part : Part of
  pub refused : IsRefusedIf of part place
  pub done : IsDone part.is_part.left place
  pub sees : end.lane ≡ (seat_of part).lane
  pub block : end.block.items ≡ block_of of.share.cpu (seat_with of part place refused)

abbrev pub HasEnded : Role → CpuEnd → Type 0
HasEnded of end = HasEndedAt of end (place_of end)

-- the trace is played on this core, over this RAM
abbrev pub setting_on : SharedCore → List ℕ → Trace → Setting
setting_on shared ram trace = record { boot = boot_of shared; ram = ram; trace = trace }

-- by what its pass has seen, which is one of this core's and is in this history, the work of a trace has ended, not for want of
-- memory
pub record HasEndedOn (shared : SharedCore) (ram : List ℕ) (trace : Trace) (history : List Event) (end : CpuEnd) : Type 0 where
  pub own : IsCpuOf shared end.pass
  pub is_in : IsIn cpu_of history end.pass
  pub some : end.outcome ≡ Err Memory → ⊥
  pub ends : EndsAs (role_in (setting_on shared ram trace) (seen end.pass) (number end.pass)) end end.outcome

-- ---- all of them, by their numbers

abbrev pub places_of : List CpuEnd → ℕ → Option ℕ
places_of ends cpu = option_and_then place_of (slice_get ends cpu)

-- the works of all processors of a trace have ended
pub record HaveEnded (on : Setting) (history : List Event) (ends : List CpuEnd) : Type 0 where
  pub count : length ends ≡ on.boot.cpus
  pub each : (cpu : ℕ) → cpu < on.boot.cpus → (end : CpuEnd) × (slice_get ends cpu ≡ Some end)
      × HasEnded (role_in on history cpu) end

-- what they have printed, one by one
abbrev pub texts_of : List CpuEnd → List (List ℕ)
texts_of ends = map (λ (end : CpuEnd). end.block.items) ends
