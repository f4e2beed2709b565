-- What holds of the journals of cores, of the histories of plays, and of what was read.
use Rattle.std.specs.Prelude.{◌≡◌, ℕ, ◌≤◌, ◌^◌, List, Some, map}
use Rattle.audit_model.specs.Verdicts.{IsFaultless, IsVerdict}
use Rattle.audit_model.specs.declared.verdict.Verdict.TheVariants.{Legal}
use Rattle.event_journal.specs.Journal.{copied_bytes}
use Rattle.event_journal.specs.declared.event.Event.{Event}
use Rattle.journal_bytes.specs.Sound.{IsSoundJournal}
use Rattle.journal_replay.specs.Booting.{IsApart}
use Rattle.kernel_model.specs.Application.{Booted, IsBooted, Native, booted}
use Rattle.kernel_model.specs.History.{IsLegal}
use Rattle.kernel_state.specs.Booting.{IsWithinLimits}
use Rattle.kernel_state.specs.Meaning.{booted_of, events_of, terms_of}
use Rattle.kernel_state.specs.declared.kernel_core.Core.{Core}
use Rattle.play_model.specs.Play.{Play, played_over}
use Rattle.ta_isa.specs.declared.boot.Boot.{Boot}
use Rattle.trace_text.specs.Sound.{IsSoundBoot}
use Rattle.trace_text.specs.declared.trace.Trace.{Trace}

pub record CoreJournalsAreSound : Type 0 where
  -- a legal history keeps the limits of journals that can be written, where its entries have read at most 2^28 bytes
  pub legal : (boot : Booted) (history : List Event) → IsLegal boot history → copied_bytes history ≤ 2 ^ 28 →
      IsSoundJournal boot.cpus history
  -- and so does the journal of each core whose entries may read no more
  pub of_core : (core : Core) → (terms_of core).most ≤ 2 ^ 28 → IsSoundJournal (booted_of core).cpus (events_of core)

-- the history of a play is legal, and the reads of each entry agree: so the verdict on it is Legal
pub record IsFaultlessPlay (boot : Booted) (play : Play) : Type 0 where
  pub faultless : IsFaultless boot play.history
  pub verdict : IsVerdict boot play.history Legal

-- each play of a trace is one, whatever RAM holds at first
abbrev pub PlaysAreFaultless : Type 0
PlaysAreFaultless = (ram : List ℕ) (natives : List Native) (boot : Boot) (trace : Trace) (play : Play) →
    IsBooted (booted boot natives) → played_over ram natives boot trace ≡ Some play → IsFaultlessPlay (booted boot natives) play

-- a journal of this boot can be checked beside these applications that are built in
pub record CanBeCheckedBeside (natives : List Native) (boot : Boot) : Type 0 where
  pub limits : IsWithinLimits boot
  pub apart : IsApart boot natives

-- each boot that was read beside the UUIDs of some built-in applications is one
abbrev pub ReadBootsCanBeChecked : Type 0
ReadBootsCanBeChecked = (natives : List Native) (boot : Boot) → IsSoundBoot (map (λ (native : Native). native.0) natives) boot →
    CanBeCheckedBeside natives boot
