-- The works of all processors are those of the play in the order of the core's history.
use Rattle.std.proofs.Common.{◌≡◌, ◌<◌, ℕ, zero, suc, Bool, true, false, List, [], ◌∷◌, length, map, get_or, Result, Ok, Err, arith, refl, ap, sym, subst, ◌∙◌}
use Rattle.std.specs.Prelude.{◌≤◌, ◌||◌, replicate, slice_index_or, All}
use Rattle.std.specs.List.{list_any}
use Rattle.std.proofs.lemmas.List.{get_or-map, length-map}
use Rattle.base.specs.Zeros.{zeros}
use Rattle.core_lock.specs.Passes.{IsIn, number, seen}
use Rattle.event_journal.specs.Journal.{copied_bytes}
use Rattle.event_journal.specs.declared.event.Event.{Event}
use Rattle.kernel_model.specs.Application.{Booted, Native, booted}
use Rattle.kernel_model.specs.History.{IsLegal}
use Rattle.kernel_model.specs.Turns.{cpu_of}
use Rattle.kernel_state.specs.Meaning.{events_of}
use Rattle.kernel_state.specs.declared.terms.Terms.{Terms}
use Rattle.kernel_state.proofs.Told.{few_bytes, is_legal}
use Rattle.kernel_state.specs.declared.enter_refusal.EnterRefusal.{EnterRefusal}
use Rattle.kernel_state.specs.declared.enter_refusal.EnterRefusal.TheVariants.{Full, Memory}
use Rattle.kernel_state.specs.declared.kernel_core.Core.{Core}
use Rattle.normal_cpus.specs.Sharing.{CpuPass, boot_of}
use Rattle.normal_cpus.specs.declared.shared_core.SharedCore.{SharedCore}
use Rattle.ordered_play.proofs.Merged.{refusals_merge}
use Rattle.ordered_play.specs.Merge.{Setting, role_in, role_of, setting_of, share_of}
use Rattle.play_model.specs.Play.{filled}
use Rattle.ta_isa.specs.declared.boot.Boot.{Boot}
use Rattle.trace_text.specs.declared.item.Item.{Item}
use Rattle.trace_text.specs.declared.trace.Trace.{Trace}
use Rattle.threads_play.specs.Ending.{EndsAs}
use Rattle.threads_play.specs.declared.ending.CpuEnd.{CpuEnd}
use Rattle.threads_play.specs.Ended.{HasEndedOn, HaveEnded, places_of, setting_on}
use Rattle.threads_play.specs.Laws.{EndsGather, EndsMerge}
use Rattle.threads_play.proofs.Merging.{apart}
use Rattle.threads_play.proofs.Refusing.{refused_says}
use Rattle.threads_play.specs.Laws.{AllPlayed, EndsArePlayed}
use Rattle.threads_play.specs.Played.{IsOfTrace}
use Rattle.threads_play.specs.Work.{HasPlayed, lacks_memory}

-- ---- lists

same_at : (n i : ℕ) (ram : List ℕ) → get_or (replicate n ram) i ram ≡ ram
same_at zero i ram = refl
same_at (suc n) zero ram = refl
same_at (suc n) (suc i) ram = same_at n i ram

none_or : (a b : Bool) → (a || b) ≡ false → (a ≡ false) × (b ≡ false)
none_or true b is = absurd cc
none_or false b is = (refl, is)

none_at : (ends : List CpuEnd) (i : ℕ) (end : CpuEnd) → list_any (λ (e : CpuEnd). lacks_memory e.outcome) ends ≡ false
    → i < length ends → lacks_memory (get_or ends i end).outcome ≡ false
none_at [] i end none within = absurd (omega arith)
none_at (first ∷ ends) zero end none within =
    (none_or (lacks_memory first.outcome) (list_any (λ (e : CpuEnd). lacks_memory e.outcome) ends) none).0
none_at (first ∷ ends) (suc i) end none within =
    none_at ends i end (none_or (lacks_memory first.outcome) (list_any (λ (e : CpuEnd). lacks_memory e.outcome) ends) none).1
    (omega arith)

not_memory : (outcome : Result (Unit {0}) EnterRefusal) → lacks_memory outcome ≡ false → outcome ≡ Err Memory → ⊥
not_memory (Ok done) none is = absurd cc
not_memory (Err (Full copied more)) none is = absurd cc
not_memory (Err Memory) none is = absurd cc

pub maps_same : (ends : List CpuEnd) (passes : List CpuPass) → length ends ≡ length passes
    → ((i : ℕ) (pass : CpuPass) (end : CpuEnd) → i < length passes
    → number (get_or ends i end).pass ≡ number (get_or passes i pass))
    → map (λ (end : CpuEnd). number end.pass) ends ≡ map number passes
maps_same [] [] count each = refl
maps_same [] (pass ∷ passes) count each = absurd (omega (arith, count))
maps_same (end ∷ ends) [] count each = absurd (omega (arith, count))
maps_same (end ∷ ends) (pass ∷ passes) count each =
    ap (λ (n : ℕ). n ∷ map (λ (e : CpuEnd). number e.pass) ends) (each 0 pass end (omega arith))
    ∙ ap (λ (ns : List ℕ). number pass ∷ ns)
    (maps_same ends passes (omega (arith, count)) (λ i p e within. each (suc i) p e (omega arith)))

-- ---- the works

module _ (shared : SharedCore) (lanes : List (List ℕ)) (items : List Item) (passes : List CpuPass) (ends : List CpuEnd)
    (core : Core) (natives : List Native) (boot : Boot) (trace : Trace)
    (all : AllPlayed shared lanes items passes ends core)
    (of : IsOfTrace (boot_of shared) lanes items natives boot trace) where
  abbrev ram : List ℕ
  ram = filled (zeros 0x400000) trace.fills

  abbrev on : Setting
  on = setting_on shared (zeros 0x400000) trace

  lane_is : (i : ℕ) → slice_index_or lanes i ram ≡ ram
  lane_is i = ap (λ (ls : List (List ℕ)). get_or ls i ram) of.rams ∙ same_at boot.cpus i ram

  played_at : (i : ℕ) (end : CpuEnd) → i < length ends
      → HasPlayed shared items (slice_index_or passes i end.pass, slice_index_or lanes i ram) (slice_index_or ends i end)
  played_at i end within =
      all.each i end.pass ram end (subst (λ (n : ℕ). i < n) all.same_length within)

  ends_by : (i : ℕ) (end : CpuEnd) → i < length ends
      → EndsAs (role_in on (seen (slice_index_or ends i end).pass) (number (slice_index_or ends i end).pass))
      (slice_index_or ends i end) (slice_index_or ends i end).outcome
  ends_by i end within =
      let has = played_at i end within in
      let e : CpuEnd = slice_index_or ends i end in
      subst (λ (n : ℕ). EndsAs (role_in on (seen e.pass) n) e e.outcome) (sym has.same)
      (subst (λ (is : List Item). EndsAs
      (role_of (share_of (boot_of shared) (seen e.pass) (number (slice_index_or passes i end.pass))) is ram) e e.outcome) of.items_are
      (subst (λ (l : List ℕ). EndsAs
      (role_of (share_of (boot_of shared) (seen e.pass) (number (slice_index_or passes i end.pass))) items l) e e.outcome) (lane_is i) has.ends))

  pass_is_in : (i : ℕ) (end : CpuEnd) → i < length ends → IsIn cpu_of (events_of core) (slice_index_or ends i end).pass
  pass_is_in i end within =
      let count : length (map (λ (e : CpuEnd). e.pass) ends) ≡ length ends = length-map ends (λ (e : CpuEnd). e.pass) in
      subst (IsIn cpu_of (events_of core)) (get_or-map (λ (e : CpuEnd). e.pass) ends i end end.pass within)
      (all.are_in i end.pass (subst (λ (n : ℕ). i < n) (sym count) within))

  ended_on : All (HasEndedOn shared (zeros 0x400000) trace (events_of core)) ends
  ended_on i end within = record {
    own = (played_at i end within).own;
    is_in = pass_is_in i end within;
    some = not_memory (slice_index_or ends i end).outcome (none_at ends i end all.none_lacked within);
    ends = ends_by i end within;
  }

  numbers_are : map (λ (end : CpuEnd). number end.pass) ends ≡ map number passes
  numbers_are = maps_same ends passes all.same_length (λ i pass end within. (all.each i pass ram end within).same)

  have : EndsGather → HaveEnded (setting_of natives boot trace) (events_of core) ends
  have ends_gather = subst (λ (core_boot : Booted). HaveEnded (record { boot = core_boot; ram = zeros 0x400000; trace = trace }) (events_of core) ends) of.core
      (ends_gather shared (zeros 0x400000) trace (events_of core) ends (numbers_are ∙ all.numbers) ended_on)

  legal : IsLegal (booted boot natives) (events_of core)
  legal = subst (λ (on : Booted). IsLegal on (events_of core)) (all.boot ∙ of.core) (is_legal core.parts core.replay)

pub ends_are_played : EndsGather → EndsMerge → EndsArePlayed
ends_are_played ends_gather ends_merge shared lanes items passes ends core natives boot trace all of =
    let history : List Event = events_of core in
    let few = subst (λ (terms : Terms). copied_bytes history ≤ terms.most) all.kept (few_bytes core.parts core.replay) in
    let lawful = legal shared lanes items passes ends core natives boot trace all of in
    let ended = have shared lanes items passes ends core natives boot trace all of ends_gather in
    let merged = refusals_merge (setting_of natives boot trace) history
    (apart natives boot trace history ends ended) lawful few in
    record {
      places = places_of ends;
      blocks = ends_merge natives boot trace history ends of.boots lawful few ended;
      play = merged.0;
      is_play = merged.1;
      is_history = merged.2.history;
      one_refused = refused_says natives boot trace history ends ended merged.0 merged.2;
    }
