-- The parts of all processors, and what they have printed.
use Rattle.std.proofs.Common.{◌≡◌, ◌<◌, ℕ, List, length, Option, Some, ap, sym, subst, ◌∙◌}
use Rattle.std.specs.Option.{option_and_then, option_map}
use Rattle.std.proofs.lemmas.List.{length-map}
use Rattle.std.proofs.lemmas.Option.{slice_get-map}
use Rattle.event_journal.specs.declared.event.Event.{Event}
use Rattle.kernel_model.specs.Application.{Native}
use Rattle.ordered_play.proofs.BlocksMerged.{blocks_merge}
use Rattle.ordered_play.specs.Laws.{AreBlocksOf}
use Rattle.ordered_play.specs.Merge.{Apart, role_in, seat_in, setting_of}
use Rattle.ta_isa.specs.declared.boot.Boot.{Boot}
use Rattle.trace_text.specs.declared.trace.Trace.{Trace}
use Rattle.threads_play.specs.declared.ending.CpuEnd.{CpuEnd}
use Rattle.threads_play.specs.Ended.{HasEndedAt, HaveEnded, place_of, places_of, texts_of}
use Rattle.threads_play.specs.Laws.{EndsMerge}

texts_count : (ends : List CpuEnd) → length (texts_of ends) ≡ length ends
texts_count ends = length-map ends (λ (end : CpuEnd). end.block.items)

module _ (natives : List Native) (boot : Boot) (trace : Trace) (history : List Event) (ends : List CpuEnd)
    (have : HaveEnded (setting_of natives boot trace) history ends) where
  pub ended_at : (cpu : ℕ) (below : cpu < boot.cpus)
      → HasEndedAt (role_in (setting_of natives boot trace) history cpu) (have.each cpu below).0 (places_of ends cpu)
  ended_at cpu below =
      let one = have.each cpu below in
      subst (λ (place : Option ℕ). HasEndedAt (role_in (setting_of natives boot trace) history cpu) one.0 place)
      (sym (ap (option_and_then place_of) one.1)) one.2

  abbrev pub apart : Apart (setting_of natives boot trace) history
  apart = record {
    parts = λ cpu below. (ended_at cpu below).part;
    places = places_of ends;
    refusals = λ cpu below. (ended_at cpu below).refused;
  }

  texts_are : AreBlocksOf boot.cpus (seat_in apart) (texts_of ends)
  texts_are = (
    texts_count ends ∙ have.count,
    λ cpu below. slice_get-map (λ (end : CpuEnd). end.block.items) ends cpu
        ∙ ap (option_map (λ (end : CpuEnd). end.block.items)) (have.each cpu below).1
        ∙ ap (λ (text : List ℕ). Some text) (ended_at cpu below).block,
  )

pub ends_merge : EndsMerge
ends_merge natives boot trace history ends is legal few have =
    blocks_merge natives boot trace history (apart natives boot trace history ends have) (texts_of ends) is legal few
    (λ cpu below. (ended_at natives boot trace history ends have cpu below).done)
    (texts_are natives boot trace history ends have)
