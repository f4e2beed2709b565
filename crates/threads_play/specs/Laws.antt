-- What holds of the acts of traces, and of works that have ended on one core.
use Rattle.std.specs.Prelude.{◌≡◌, ◌<◌, ◌≤◌, ◌^◌, ℕ, false, List, length, map, slice_index_or, All, Some, Err}
use Rattle.std.specs.List.{flat_map, list_any}
use Rattle.core_lock.specs.Counts.{numbers_from}
use Rattle.core_lock.specs.Passes.{IsIn, number, seen}
use Rattle.event_journal.specs.Journal.{copied_bytes}
use Rattle.event_journal.specs.declared.event.Event.{Event}
use Rattle.kernel_model.specs.Application.{Native, booted}
use Rattle.kernel_model.specs.History.{IsLegal}
use Rattle.kernel_model.specs.Turns.{cpu_of}
use Rattle.kernel_state.specs.Meaning.{booted_of, events_of, terms_of}
use Rattle.kernel_state.specs.Terms.{kept_terms}
use Rattle.kernel_state.specs.declared.enter_refusal.EnterRefusal.TheVariants.{Memory}
use Rattle.kernel_state.specs.declared.kernel_core.Core.{Core}
use Rattle.normal_cpus.specs.Sharing.{CpuPass, IsCpuOf, boot_of}
use Rattle.normal_cpus.specs.declared.shared_core.SharedCore.{SharedCore}
use Rattle.ordered_play.specs.Act.{acts_for}
use Rattle.ordered_play.specs.Blocks.{blocks_in}
use Rattle.ordered_play.specs.Merge.{order_with, role_of, setting_of, share_of}
use Rattle.ta_isa.specs.declared.boot.Boot.{Boot}
use Rattle.trace_text.specs.Sound.{IsSound}
use Rattle.trace_text.specs.declared.item.Item.{Item}
use Rattle.trace_text.specs.declared.trace.Trace.{Trace}
use Rattle.threads_play.specs.Ending.{EndsAs}
use Rattle.threads_play.specs.InTurn.{AreInTurn}
use Rattle.threads_play.specs.declared.ending.CpuEnd.{CpuEnd}
use Rattle.threads_play.specs.Ended.{HasEnded, HasEndedOn, HaveEnded, places_of, setting_on, texts_of}
use Rattle.threads_play.specs.Played.{IsOfTrace, WasPlayed}
use Rattle.threads_play.specs.Work.{HasPlayed, lacks_memory, was_refused}

-- ---- one processor

-- each processor of a trace within its limits comes in and goes out by turns
abbrev pub SoundTracesAreInTurn : Type 0
SoundTracesAreInTurn = (natives : List (List ℕ)) (trace : Trace) (cpu : ℕ) → cpu < 8 → IsSound natives trace
    → AreInTurn false (acts_for cpu trace.items)

-- ---- over one history

-- a work that has ended, not for want of memory, by what its pass has seen, has ended so by each history that the pass is in
abbrev pub EndsStay : Type 0
EndsStay = (shared : SharedCore) (history : List Event) (items : List Item) (lane : List ℕ) (end : CpuEnd)
    → IsCpuOf shared end.pass → IsIn cpu_of history end.pass → (end.outcome ≡ Err Memory → ⊥)
    → EndsAs (role_of (share_of (boot_of shared) (seen end.pass) (number end.pass)) items lane) end end.outcome
    → HasEnded (role_of (share_of (boot_of shared) history (number end.pass)) items lane) end

-- of each processor there is one such work, by their numbers: all of them have ended over that history
abbrev pub EndsGather : Type 0
EndsGather = (shared : SharedCore) (ram : List ℕ) (trace : Trace) (history : List Event) (ends : List CpuEnd)
    → map (λ (end : CpuEnd). number end.pass) ends ≡ numbers_from 0 (boot_of shared).cpus
    → All (HasEndedOn shared ram trace history) ends → HaveEnded (setting_on shared ram trace) history ends

-- the works of all processors have ended over one legal history, whose entries have read at most 2^28 bytes: the blocks of the
-- trace, in the order of that history with the refused entries, are what they have printed
abbrev pub EndsMerge : Type 0
EndsMerge = (natives : List Native) (boot : Boot) (trace : Trace) (history : List Event) (ends : List CpuEnd)
    → trace.boot ≡ Some boot → IsLegal (booted boot natives) history → copied_bytes history ≤ 2 ^ 28
    → HaveEnded (setting_of natives boot trace) history ends
    → blocks_in natives trace (order_with (places_of ends) boot.cpus 0 history) ≡ Some (flat_map (λ text. text) (texts_of ends))

-- ---- once the core is had back

-- of each pass of a core, by its number, and the RAM at its place the work has come back, none for want of memory, and the core is
-- had back, its events kept, with a history that all passes are in
pub record AllPlayed (shared : SharedCore) (lanes : List (List ℕ)) (items : List Item) (passes : List CpuPass) (ends : List CpuEnd)
    (core : Core) : Type 0 where
  pub numbers : map number passes ≡ numbers_from 0 (boot_of shared).cpus
  pub same_length : length ends ≡ length passes
  pub each : (i : ℕ) (pass : CpuPass) (lane : List ℕ) (end : CpuEnd) → i < length passes
      → HasPlayed shared items (slice_index_or passes i pass, slice_index_or lanes i lane) (slice_index_or ends i end)
  pub none_lacked : list_any (λ (end : CpuEnd). lacks_memory end.outcome) ends ≡ false
  pub boot : booted_of core ≡ boot_of shared
  pub kept : terms_of core ≡ kept_terms
  pub are_in : All (IsIn cpu_of (events_of core)) (map (λ (end : CpuEnd). end.pass) ends)

-- then the trace was played, and its text is theirs
abbrev pub EndsArePlayed : Type 0
EndsArePlayed = (shared : SharedCore) (lanes : List (List ℕ)) (items : List Item) (passes : List CpuPass) (ends : List CpuEnd)
    (core : Core) (natives : List Native) (boot : Boot) (trace : Trace)
    → AllPlayed shared lanes items passes ends core → IsOfTrace (boot_of shared) lanes items natives boot trace
    → WasPlayed natives boot trace (events_of core) (flat_map (λ text. text) (texts_of ends))
    (list_any (λ (end : CpuEnd). was_refused end.outcome) ends)
