-- Each event of a legal history keeps the limits of journals.
use Rattle.std.proofs.Common.{◌≡◌, ℕ, ◌<◌, ◌≤◌, ◌^◌, List, [], ◌∷◌, ◌++◌, Option, Some, refl, ap, subst, ◌∙◌, arith}
use Rattle.std.proofs.lemmas.List.Elements.{All-from_recursion}
use Rattle.std.proofs.lemmas.Option.{option_and_then_some, slice_get_within}
use Rattle.std.specs.Prelude.{slice_get}
use Rattle.std.specs.List.{AllByRecursion}
use Rattle.std.specs.Option.{option_and_then}
use Rattle.audit.specs.Laws.{CoreJournalsAreSound}
use Rattle.event_journal.specs.Journal.{copied_bytes}
use Rattle.event_journal.specs.declared.event.Event.{Event}
use Rattle.event_journal.specs.declared.event.Event.TheVariants.{Entry, Exit}
use Rattle.journal_bytes.specs.Sound.{IsSoundEvent, IsSoundJournal, IsSoundRead}
use Rattle.kernel_model.proofs.Parts.{some_of}
use Rattle.kernel_model.proofs.Past.{after_events-append}
use Rattle.kernel_model.proofs.ReadsOfRam.{histories_read_ram}
use Rattle.kernel_model.proofs.SoundSteps.{as_many}
use Rattle.kernel_model.specs.Application.{Booted, IsBooted}
use Rattle.kernel_model.specs.Exit.{Exited, exit, exit_of}
use Rattle.kernel_model.specs.History.{IsLegal, after_event, after_events, exit_to, kernel_after}
use Rattle.kernel_model.specs.Kernel.{Kernel, Processor, first_kernel}
use Rattle.kernel_model.specs.Turns.{IsReadOfRam, ReadsRam}
use Rattle.kernel_state.proofs.CoreEvents.{came_in, core_is_legal, few_steps, some_steps}
use Rattle.kernel_state.proofs.Told.{few_bytes}
use Rattle.kernel_state.specs.Meaning.{booted_of, events_of, terms_of}
use Rattle.ns_ram.specs.declared.read.Read.{Read}

sound_reads : (reads : List Read) → AllByRecursion IsReadOfRam reads → AllByRecursion IsSoundRead reads
sound_reads [] all = tt
sound_reads (read ∷ reads) all = (record { some = all.0.some; in_ram = all.0.in_ram }, sound_reads reads all.1)

module _ (boot : Booted) (boots : IsBooted boot) where
  sound_event : (before : List Event) (kernel next : Kernel) (event : Event) → kernel_after boot before ≡ Some kernel
      → after_event boot kernel event ≡ Some next → ReadsRam event → IsSoundEvent boot.cpus event
  sound_event before kernel next (Entry cpu regs steps reads) comes gives ram =
      let came = came_in boot kernel next cpu steps regs reads gives in
      record {
        processor = subst (λ (n : ℕ). cpu < n) (as_many boot before kernel boots comes).processors
            (slice_get_within kernel.processors cpu _ came.outside);
        some_step = some_steps steps came.granted;
        few_steps = few_steps steps came.granted;
        are_reads = All-from_recursion IsSoundRead reads (sound_reads reads ram);
      }
  sound_event before kernel next (Exit cpu regs) comes gives ram =
      option_and_then_some (exit_to regs.a) (exit kernel cpu) next gives
      (λ (exited : Exited) is onward. option_and_then_some (exit_of kernel cpu) (slice_get kernel.processors cpu) exited is
      (λ (processor : Processor) there out.
      subst (λ (n : ℕ). cpu < n) (as_many boot before kernel boots comes).processors (slice_get_within kernel.processors cpu processor there)))

  sound_events : (before : List Event) (kernel last : Kernel) (events : List Event) → kernel_after boot before ≡ Some kernel
      → after_events boot kernel events ≡ Some last → AllByRecursion ReadsRam events → AllByRecursion (IsSoundEvent boot.cpus) events
  sound_events before kernel last [] comes gives ram = tt
  sound_events before kernel last (event ∷ events) comes gives ram =
      option_and_then_some (λ k. after_events boot k events) (after_event boot kernel event) last gives
      (λ (next : Kernel) there onward.
      let once : kernel_after boot (before ++ event ∷ []) ≡ Some next =
      after_events-append boot (first_kernel boot) before (event ∷ [])
      ∙ ap (λ (o : Option Kernel). option_and_then (λ k. after_events boot k (event ∷ [])) o) comes
      ∙ ap (λ (o : Option Kernel). option_and_then (λ k. after_events boot k []) o) there in (
        sound_event before kernel next event comes there ram.0,
        sound_events (before ++ event ∷ []) next last events once onward ram.1,
      ))

sound_history : (boot : Booted) (history : List Event) → IsLegal boot history → copied_bytes history ≤ 2 ^ 28
    → IsSoundJournal boot.cpus history
sound_history boot history legal few =
    let end = some_of (kernel_after boot history) legal.follows in
    record {
      each = All-from_recursion (IsSoundEvent boot.cpus) history
          (sound_events boot legal.boots [] (first_kernel boot) end.0 history refl end.1 (histories_read_ram boot history legal));
      few_bytes = few;
    }

pub core_journals_are_sound : CoreJournalsAreSound
core_journals_are_sound = record {
  legal = sound_history;
  of_core = λ core most.
      let few : copied_bytes (events_of core) ≤ (terms_of core).most = few_bytes core.parts core.replay in
      sound_history (booted_of core) (events_of core) (core_is_legal core) (omega (arith, few, most));
}
