-- What each thread is given, and what comes of all of them once the core is had back.
use Rattle.std.proofs.Common.{◌≡◌, ◌<◌, ℕ, Bool, false, List, [], ◌∷◌, length, map, arith, refl, sym, ap, subst, ◌∙◌}
use Rattle.std.specs.Prelude.{All, slice_index_or}
use Rattle.std.specs.List.{flat_map, list_any}
use Rattle.std.proofs.lemmas.List.Elements.{All-map}
use Rattle.std.proofs.lemmas.List.{length-map}
use Rattle.core_lock.proofs.Totals.{length-numbers_from}
use Rattle.core_lock.specs.Counts.{numbers_from, times}
use Rattle.core_lock.specs.Passes.{AreUnused, IsIn, number}
use Rattle.kernel_model.specs.Application.{Booted, Native}
use Rattle.kernel_model.specs.Turns.{cpu_of}
use Rattle.kernel_state.specs.Meaning.{booted_of, events_of, terms_of}
use Rattle.kernel_state.specs.Terms.{kept_terms}
use Rattle.kernel_state.specs.declared.kernel_core.Core.{Core}
use Rattle.normal_cpus.specs.Sharing.{AreAllCpusOf, AreCpusOf, CpuPass, IsCpuOf, boot_of}
use Rattle.normal_cpus.specs.declared.shared_core.SharedCore.{SharedCore}
use Rattle.threads_play.specs.Ended.{texts_of}
use Rattle.ta_isa.specs.declared.boot.Boot.{Boot}
use Rattle.trace_text.specs.declared.item.Item.{Item}
use Rattle.trace_text.specs.declared.trace.Trace.{Trace}
use Rattle.threads_play.specs.declared.ending.CpuEnd.{CpuEnd}
use Rattle.threads_play.proofs.Works.{maps_same}
use Rattle.threads_play.specs.Laws.{AllPlayed, EndsArePlayed}
use Rattle.threads_play.specs.Played.{IsOfTrace, TakeTurns, WasPlayed}
use Rattle.threads_play.specs.Work.{CanPlay, HasPlayed, lacks_memory, was_refused}

-- as many passes as processors
pub passes_count : (passes : List CpuPass) (cpus : ℕ) → map number passes ≡ numbers_from 0 cpus → length passes ≡ cpus
passes_count passes cpus numbers =
    sym (length-map passes (λ (pass : CpuPass). number pass)) ∙ ap (λ (ns : List ℕ). length ns) numbers ∙ length-numbers_from 0 cpus

map_twice : (ends : List CpuEnd) → map number (map (λ (end : CpuEnd). end.pass) ends) ≡ map (λ (end : CpuEnd). number end.pass) ends
map_twice [] = refl
map_twice (end ∷ ends) = ap (λ (ns : List ℕ). number end.pass ∷ ns) (map_twice ends)

module _ (shared : SharedCore) (items : List Item) (passes : List CpuPass) (lanes : List (List ℕ)) (jobs : List (CpuPass × List ℕ))
    (count : length jobs ≡ length passes)
    (job_is : (i : ℕ) (pass : CpuPass) (lane : List ℕ) → i < length passes
    → slice_index_or jobs i (pass, lane) ≡ (slice_index_or passes i pass, slice_index_or lanes i lane)) where
  pub can_play : AreCpusOf shared passes → AreUnused passes → TakeTurns items → All (CanPlay shared items) jobs
  can_play own unused turns i job within =
      let below : i < length passes = subst (λ (n : ℕ). i < n) count within in
      let own_one = own i job.0 below in
      subst (CanPlay shared items) (sym (job_is i job.0 job.1 below)) record {
        own = own_one;
        unused = (unused i job.0 below).1;
        turn = turns (number (slice_index_or passes i job.0)) (omega (arith, own_one.0.below, shared.few));
      }

  module _ (ends : List CpuEnd) (same_length : length ends ≡ length jobs)
      (played : (i : ℕ) (job : CpuPass × List ℕ) (end : CpuEnd) → i < length jobs
      → HasPlayed shared items (slice_index_or jobs i job) (slice_index_or ends i end)) where
    has_played : (i : ℕ) (pass : CpuPass) (lane : List ℕ) (end : CpuEnd) → i < length passes
        → HasPlayed shared items (slice_index_or passes i pass, slice_index_or lanes i lane) (slice_index_or ends i end)
    has_played i pass lane end below =
        subst (λ (job : CpuPass × List ℕ). HasPlayed shared items job (slice_index_or ends i end)) (job_is i pass lane below)
        (played i (pass, lane) end (subst (λ (n : ℕ). i < n) (sym count) below))

    -- the passes that come back are the core's, and all of them
    pub closes_own : AreCpusOf shared (map (λ (end : CpuEnd). end.pass) ends)
    closes_own = All-map (IsCpuOf shared) (λ (end : CpuEnd). end.pass) ends
        (λ i end within. (has_played i end.pass [] end
        (subst (λ (n : ℕ). i < n) (same_length ∙ count) within)).own)

    pub closes_all : map number passes ≡ numbers_from 0 (boot_of shared).cpus
        → AreAllCpusOf shared (map (λ (end : CpuEnd). end.pass) ends)
    closes_all numbers n = ap (times n) (map_twice ends
        ∙ maps_same ends passes (same_length ∙ count) (λ i pass end below. (has_played i pass [] end below).same) ∙ numbers)

    pub all_played : (core : Core) → map number passes ≡ numbers_from 0 (boot_of shared).cpus
        → list_any (λ (end : CpuEnd). lacks_memory end.outcome) ends ≡ false → booted_of core ≡ boot_of shared → terms_of core ≡ kept_terms
        → All (IsIn cpu_of (events_of core)) (map (λ (end : CpuEnd). end.pass) ends)
        → AllPlayed shared lanes items passes ends core
    all_played core numbers none boots kept are_in = record {
      numbers = numbers;
      same_length = same_length ∙ count;
      each = has_played;
      none_lacked = none;
      boot = boots;
      kept = kept;
      are_in = are_in;
    }

-- then the trace was played
pub were_played : EndsArePlayed → (shared : SharedCore) (lanes : List (List ℕ)) (items : List Item) (passes : List CpuPass)
    (ends : List CpuEnd) (core : Core) (on : Booted) (text : List ℕ) (refused : Bool)
    → AllPlayed shared lanes items passes ends core → boot_of shared ≡ on
    → text ≡ flat_map (λ block. block) (texts_of ends) → refused ≡ list_any (λ (end : CpuEnd). was_refused end.outcome) ends
    → (natives : List Native) (boot : Boot) (trace : Trace) → IsOfTrace on lanes items natives boot trace
    → WasPlayed natives boot trace (events_of core) text refused
were_played law shared lanes items passes ends core on text refused all boots text_is refused_is natives boot trace of =
    subst (λ (t : List ℕ). WasPlayed natives boot trace (events_of core) t refused) (sym text_is)
    (subst (λ (r : Bool). WasPlayed natives boot trace (events_of core) (flat_map (λ block. block) (texts_of ends)) r) (sym refused_is)
    (law shared lanes items passes ends core natives boot trace all
    (subst (λ (b : Booted). IsOfTrace b lanes items natives boot trace) (sym boots) of)))
