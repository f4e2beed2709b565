-- Between what a pass had seen and its own next event only others have come and gone.
use Rattle.std.proofs.Common.{◌≡◌, ℕ, Bool, true, false, List, [], ◌∷◌, ◌++◌, refl, ap, sym, ◌∙◌, arith}
use Rattle.std.specs.Prelude.{◌==◌, if◌then◌else◌}
use Rattle.std.specs.List.{AllByRecursion}
use Rattle.std.proofs.lemmas.Bool.Decides.{nat_tests}
use Rattle.core_lock.specs.Counts.{made_by}
use Rattle.core_lock.specs.Passes.{made, number, seen}
use Rattle.event_journal.specs.declared.event.Event.{Event}
use Rattle.kernel_model.specs.Application.{Booted}
use Rattle.kernel_model.specs.Laws.{IsOfOther}
use Rattle.kernel_model.specs.Turns.{cpu_of}
use Rattle.normal_cpus.specs.Seeing.{HasMade, HasOnlySeen}
use Rattle.normal_cpus.specs.Sharing.{CpuPass}
use Rattle.normal_cpus.proofs.OwnEvents.{others_behind}

-- its events of two lists, one behind the other
own_append_on : (event : Event) (mine : Bool) (all own more : List Event) → all ≡ own ++ more →
    (if mine then event ∷ all else all) ≡ (if mine then event ∷ own else own) ++ more
own_append_on event true all own more is = ap (λ (events : List Event). event ∷ events) is
own_append_on event false all own more is = is

own_append : (cpu : ℕ) (before behind : List Event) →
    made_by cpu_of cpu (before ++ behind) ≡ made_by cpu_of cpu before ++ made_by cpu_of cpu behind
own_append cpu [] behind = refl
own_append cpu (event ∷ before) behind =
    own_append_on event (cpu_of event == cpu) (made_by cpu_of cpu (before ++ behind)) (made_by cpu_of cpu before)
    (made_by cpu_of cpu behind) (own_append cpu before behind)

one_of_own : (cpu : ℕ) (event : Event) (mine : Bool) → (cpu_of event == cpu) ≡ mine → cpu_of event ≡ cpu →
    (if mine then event ∷ [] else []) ≡ event ∷ []
one_of_own cpu event true is own = refl
one_of_own cpu event false is own = absurd (grind (arith, nat_tests))

same_fronts : (one other : List Event) (event : Event) → one ++ event ∷ [] ≡ other ++ event ∷ [] → one ≡ other
same_fronts [] [] event same = refl
same_fronts [] (o ∷ []) event same = absurd cc
same_fronts [] (o ∷ p ∷ other) event same = absurd cc
same_fronts (e ∷ []) [] event same = absurd cc
same_fronts (e ∷ f ∷ one) [] event same = absurd cc
same_fronts (e ∷ one) (o ∷ other) event same =
    let heads : e ≡ o = cc in
    let tails : one ++ event ∷ [] ≡ other ++ event ∷ [] = cc in
    let rest = same_fronts one other event tails in
    cc

module _ (boot : Booted) (old new : CpuPass) (own : made old ≡ made_by cpu_of (number old) (seen old)) where
  -- before the event that it has made
  pub others_before : (before : List Event) (event : Event) → cpu_of event ≡ number old →
      (has : HasMade boot old new before event) → AllByRecursion (IsOfOther (number old)) has.begins.0
  others_before before event mine has =
      let cpu = number old in
      let all : made_by cpu_of cpu before ++ event ∷ [] ≡ made_by cpu_of cpu (seen old) ++ event ∷ [] =
      ap (λ (events : List Event). made_by cpu_of cpu before ++ events)
      (sym (one_of_own cpu event (cpu_of event == cpu) refl mine))
      ∙ sym (own_append cpu before (event ∷ [])) ∙ ap (made_by cpu_of cpu) (sym has.ends) ∙ has.own ∙ has.made_one
      ∙ ap (λ (events : List Event). events ++ event ∷ []) own in
      others_behind cpu (seen old) has.begins.0
      (ap (made_by cpu_of cpu) has.begins.1
      ∙ same_fronts (made_by cpu_of cpu before) (made_by cpu_of cpu (seen old)) event all)

  -- where it has made none
  pub others_seen : (has : HasOnlySeen boot old new) → AllByRecursion (IsOfOther (number old)) has.begins.0
  others_seen has =
      others_behind (number old) (seen old) has.begins.0
      (ap (made_by cpu_of (number old)) has.begins.1 ∙ has.own ∙ has.made_none ∙ own)
