-- Two processors, as they begin and end.
use Rattle.std.proofs.Common.{◌≡◌, List, [], ◌∷◌, Option, None, ap, sym, subst, ◌∙◌}
use Rattle.std.specs.Prelude.{map}
use Rattle.std.proofs.lemmas.List.Elements.{All-head, All-tail}
use Rattle.core_cases.specs.Cpus.{HasItsWork, IsCpuOf, IsPairOf}
use Rattle.core_cases.specs.declared.cpu.Cpu.{Cpu}
use Rattle.core_cases.specs.declared.pair.Pair.{Pair}
use Rattle.kernel_state.specs.declared.work.Work.{Work}
use Rattle.core_lock.specs.Passes.{AreUnused, made, number, seen}
use Rattle.normal_cpus.specs.Sharing.{AreCpusOf, CpuPass, boot_of, end_inside}
use Rattle.normal_cpus.specs.Sharing as pass
use Rattle.normal_cpus.specs.declared.shared_core.SharedCore.{SharedCore}

abbrev Unused : CpuPass → Type 0
Unused p = (seen p ≡ []) × (made p ≡ [])

-- one that has made nothing is outside
begins : (shared : SharedCore) (cpu : Cpu) → pass.IsCpuOf shared cpu.pass → Unused cpu.pass → cpu.work ≡ None → IsCpuOf shared cpu
begins shared cpu own unused none = record {
  own = own;
  works = subst (λ (w : Option Work). HasItsWork (boot_of shared) cpu.pass w) (sym none) (ap end_inside unused.1);
}

pub pair_begins : (shared : SharedCore) (pair : Pair) (passes : List CpuPass) →
    passes ≡ pair.first.pass ∷ pair.second.pass ∷ [] → AreCpusOf shared passes × AreUnused passes →
    map number passes ≡ 0 ∷ 1 ∷ [] → pair.first.work ≡ None → pair.second.work ≡ None → IsPairOf shared pair
pair_begins shared pair passes are own numbers one two =
    let first = pair.first.pass in
    let second = pair.second.pass in
    let owns = subst (AreCpusOf shared) are own.0 in
    let unused = subst AreUnused are own.1 in
    let numbered : number first ∷ number second ∷ [] ≡ 0 ∷ 1 ∷ [] = ap (map number) (sym are) ∙ numbers in
    record {
      first = begins shared pair.first (All-head (pass.IsCpuOf shared) first (second ∷ []) owns) (All-head Unused first (second ∷ []) unused) one;
      second = begins shared pair.second
          (All-head (pass.IsCpuOf shared) second [] (All-tail (pass.IsCpuOf shared) first (second ∷ []) owns))
          (All-head Unused second [] (All-tail Unused first (second ∷ []) unused)) two;
      first_is = cc;
      second_is = cc;
    }
