-- What is known of an event that can be next.
use Rattle.std.proofs.Common.{◌≡◌, [], ◌∷◌, ◌++◌, Bool, true, false, Option, Some, refl, ap, sym, subst, ◌∙◌}
use Rattle.std.specs.Prelude.{IsTrue, Result, Ok, Err}
use Rattle.std.specs.Option.{option_and_then}
use Rattle.audit_model.specs.Verdicts.{IsFaultless}
use Rattle.base.specs.declared.no_memory.NoMemory.{NoMemory}
use Rattle.core_at_work.specs.declared.core_at_work.CoreAtWork.{CoreAtWork}
use Rattle.event_journal.specs.declared.event.Event.{Event}
use Rattle.journal_replay.specs.Laws.{ReplaysAreFaultless}
use Rattle.journal_replay.specs.Replaying.{CanBeNext, Does, HasDone, boot_of, done_by}
use Rattle.journal_replay.specs.declared.replay.Replay.{Replay}
use Rattle.journal_replay.proofs.ReadLists.{all_last}
use Rattle.kernel_model.proofs.Parts.{some_of}
use Rattle.kernel_model.proofs.Past.{after_events-append}
use Rattle.kernel_model.proofs.ReadsOfRam.{histories_read_ram}
use Rattle.kernel_model.proofs.Suspended.{only_one}
use Rattle.kernel_model.specs.History.{after_event, after_events, kernel_after}
use Rattle.kernel_model.specs.Kernel.{Kernel, first_kernel}
use Rattle.kernel_model.specs.Turns.{ReadsRam}
use Rattle.kernel_state.proofs.CoreEvents.{core_is_legal, some_kernel}
use Rattle.kernel_state.proofs.Told.{reads_agree}
use Rattle.kernel_state.specs.Meaning.{booted_of, events_of}
use Rattle.kernel_state.specs.Reads.{ReadsAgree}

-- ---- the events that were done

pub replays_are_faultless : ReplaysAreFaultless
replays_are_faultless replay = record {
  legal = core_is_legal replay.at_work.core;
  steady = reads_agree replay.at_work.core.parts replay.at_work.core.replay;
}

-- ---- the next one

-- the kernel by now
abbrev pub kernel_now : Replay → Kernel
kernel_now replay = (some_kernel replay.at_work.core).0

module _ (replay : Replay) (event : Event) (can : CanBeNext replay event) where
  pub next_kernel : (next : Kernel) × (after_event (boot_of replay) (kernel_now replay) event ≡ Some next)
  next_kernel =
      let last = some_of (kernel_after (boot_of replay) (done_by replay ++ event ∷ [])) can.legal.follows in (
        last.0,
        only_one (after_event (boot_of replay) (kernel_now replay) event) last.0
            (sym (after_events-append (boot_of replay) (first_kernel (boot_of replay)) (done_by replay) (event ∷ [])
            ∙ ap (λ (o : Option Kernel). option_and_then (λ k. after_events (boot_of replay) k (event ∷ [])) o) (some_kernel replay.at_work.core).1)
            ∙ last.1),
      )

  pub next_agrees : ReadsAgree event
  next_agrees = all_last ReadsAgree (done_by replay) event can.steady

  pub next_reads_ram : ReadsRam event
  next_reads_ram =
      all_last ReadsRam (done_by replay) event (histories_read_ram (boot_of replay) (done_by replay ++ event ∷ []) can.legal)

-- ---- an answer

-- that the event was done, or else can't be next
pub does_so : (old new : Replay) (event : Event) (answer : Bool) → (IsTrue answer → HasDone old new event) → (CanBeNext old event → IsTrue answer)
    → Does old new event (Ok answer)
does_so old new event true done can = done refl
does_so old new event false done can = λ next. let no : IsTrue false = can next in absurd cc

-- RAM is no part of what was done
pub does_still : (old laid new : Replay) (event : Event) (result : Result Bool NoMemory) → laid.at_work ≡ old.at_work
    → Does laid new event result → Does old new event result
does_still old laid new event (Ok true) same has = record {
  boot = has.boot ∙ ap (λ (at_work : CoreAtWork). booted_of at_work.core) same;
  events = has.events ∙ ap (λ (at_work : CoreAtWork). events_of at_work.core ++ event ∷ []) same;
}
does_still old laid new event (Ok false) same cannot = λ can.
    cannot (subst (λ (at_work : CoreAtWork). IsFaultless (booted_of at_work.core) (events_of at_work.core ++ event ∷ [])) (sym same) can)
does_still old laid new event (Err error) same does = tt
