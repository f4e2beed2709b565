-- The works of all processors, by their numbers.
use Rattle.std.proofs.Common.{◌≡◌, ◌<◌, ◌+◌, ℕ, zero, suc, List, [], ◌∷◌, length, map, get_or, slice_get, Some, arith, refl, ap, sym, subst, ◌∙◌}
use Rattle.std.specs.Prelude.{All}
use Rattle.std.specs.Option.{option_map}
use Rattle.std.proofs.lemmas.List.{length-map}
use Rattle.std.proofs.lemmas.Option.{slice_get-map}
use Rattle.core_lock.specs.Counts.{numbers_from}
use Rattle.core_lock.specs.Passes.{number}
use Rattle.event_journal.specs.declared.event.Event.{Event}
use Rattle.normal_cpus.specs.Sharing.{boot_of}
use Rattle.normal_cpus.specs.declared.shared_core.SharedCore.{SharedCore}
use Rattle.ordered_play.specs.Merge.{role_in}
use Rattle.play_model.specs.Play.{filled}
use Rattle.trace_text.specs.declared.trace.Trace.{Trace}
use Rattle.threads_play.specs.declared.ending.CpuEnd.{CpuEnd}
use Rattle.threads_play.specs.Ended.{HasEnded, HasEndedOn, setting_on}
use Rattle.threads_play.specs.Laws.{EndsGather}
use Rattle.threads_play.proofs.Staying.{ends_stay}

at_place : (ends : List CpuEnd) (k : ℕ) → k < length ends
    → (end : CpuEnd) × (slice_get ends k ≡ Some end) × (get_or ends k end ≡ end)
at_place [] k within = absurd (omega arith)
at_place (end ∷ ends) zero within = (end, refl, refl)
at_place (end ∷ ends) (suc k) within = at_place ends k (omega arith)

some_same : (a b : ℕ) → Some a ≡ Some b → a ≡ b
some_same a b is = cc

number_at : (first n k : ℕ) → k < n → slice_get (numbers_from first n) k ≡ Some (first + k)
number_at first zero k within = absurd (omega arith)
number_at first (suc n) zero within =
    let same : first ≡ first + 0 = omega arith in ap (λ (m : ℕ). Some m) same
number_at first (suc n) (suc k) within =
    let same : suc first + k ≡ first + suc k = omega arith in
    number_at (suc first) n k (omega arith) ∙ ap (λ (m : ℕ). Some m) same

length_numbers : (first n : ℕ) → length (numbers_from first n) ≡ n
length_numbers first zero = refl
length_numbers first (suc n) = ap (λ (m : ℕ). suc m) (length_numbers (suc first) n)

one_of : (shared : SharedCore) (ram : List ℕ) (trace : Trace) (history : List Event) (ends : List CpuEnd)
    → map (λ (end : CpuEnd). number end.pass) ends ≡ numbers_from 0 (boot_of shared).cpus
    → All (HasEndedOn shared ram trace history) ends → (cpu : ℕ) → cpu < (boot_of shared).cpus → cpu < length ends
    → (end : CpuEnd) × (slice_get ends cpu ≡ Some end)
    × HasEnded (role_in (setting_on shared ram trace) history cpu) end
one_of shared ram trace history ends numbers all cpu below within =
    let there = at_place ends cpu within in
    let end = there.0 in
    let has : HasEndedOn shared ram trace history end =
    subst (HasEndedOn shared ram trace history) there.2 (all cpu end within) in
    let numbered : Some (number end.pass) ≡ Some (0 + cpu) =
    sym (ap (option_map (λ (e : CpuEnd). number e.pass)) there.1) ∙ sym (slice_get-map (λ (e : CpuEnd). number e.pass) ends cpu)
    ∙ ap (λ (ns : List ℕ). slice_get ns cpu) numbers ∙ number_at 0 (boot_of shared).cpus cpu below in
    let counted : 0 + cpu ≡ cpu = omega arith in
    let number_is : number end.pass ≡ cpu = some_same (number end.pass) (0 + cpu) numbered ∙ counted in (
      end,
      there.1,
      subst (λ (n : ℕ). HasEnded (role_in (setting_on shared ram trace) history n) end) number_is
          (ends_stay shared history trace.items (filled ram trace.fills) end has.own has.is_in has.some has.ends),
    )

pub ends_gather : EndsGather
ends_gather shared ram trace history ends numbers all =
    let count : length ends ≡ (boot_of shared).cpus =
    sym (length-map ends (λ (end : CpuEnd). number end.pass)) ∙ ap (λ (ns : List ℕ). length ns) numbers
    ∙ length_numbers 0 (boot_of shared).cpus in
    record {
      count = count;
      each = λ cpu below. one_of shared ram trace history ends numbers all cpu below
          (subst (λ (n : ℕ). cpu < n) (sym count) below);
    }
