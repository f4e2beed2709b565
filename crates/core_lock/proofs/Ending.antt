-- What the rule says once all passes are joined.
use Rattle.std.proofs.Common.{◌≡◌, ℕ, ◌<◌, List, Some, Option, sym, ap, ◌∙◌, subst, ⊎_elim, arith}
use Rattle.std.specs.Prelude.{All}
use mathlib.Core.Option.{some, some-injective}
use mathlib.Core.Logic.{dite}
use native.Mathlib.Decide.{ℕ_discrete}
use lib.ListN.{get_elem?}
use Rattle.atomic_table.specs.Table.{State, Final, Seen}
use Rattle.core_lock.specs.declared.view.Stand.TheVariants.{Outside}
use Rattle.core_lock.specs.declared.view.View.{View}
use Rattle.core_lock.specs.Counts.{times, numbers_from}
use Rattle.core_lock.specs.Rule.{turning, turns, numbers_of, spent, IsLive, IsRecord, Kept}
use Rattle.core_lock.specs.Steps.{own_number, taken_over}
use Rattle.core_lock.proofs.Totals.{total_two, total_none}
use Rattle.core_lock.proofs.Histories.{records_taken}
use Rattle.core_lock.proofs.Facts.{own_once}

module _ {T E G : Type 0} (entries : T → List E) (maker : E → ℕ) (basis : T → G) (count : ℕ) (base : G) where
  -- who has every number is alone
  alone : (s : State (Option T) (View E G)) (r : Kept entries maker basis count base s) (id : ℕ) (v : View E G) → get_elem? s.views id ≡ some v → v.stand ≡ Outside
      → ((n : ℕ) → times n (numbers_of v) ≡ times n (numbers_from 0 count)) → turns s.views ≡ 0
  alone s r id v at outside every = total_none (λ (u : View E G). turning u.stand) s.views (λ j u e. dite (ℕ_discrete j id)
      (λ here. let one : u ≡ v = some-injective u v (sym e ∙ (ap (get_elem? s.views) here ∙ at)) in ap (λ (z : View E G). turning z.stand) one ∙ ap turning outside)
      (λ apart. ⊎_elim
      (λ (l : IsLive count base u).
      let n : ℕ = own_number u.records in
      let two = total_two (λ (z : View E G). times n (numbers_of z)) s.views id j v u (λ h. apart (sym h)) at e in
      let a = own_once u.records l.recorded in
      let b = r.numbers n in
      let c = every n in absurd (omega arith))
      (λ (is : u ≡ spent). ap (λ (z : View E G). turning z.stand) is)
      (r.each j u e).alive))

  -- what the slot has at the end
  pub record Ends (v : View E G) (xs : List (Option T)) : Type 0 where
    pub value : T
    pub there : get_elem? xs 0 ≡ some (Some value)
    pub basis_is : basis value ≡ base
    pub makers : All (λ e. maker e < count) (entries value)
    pub records : All (IsRecord maker (entries value)) (taken_over v.seen v.records)

  pub ends : (id : ℕ) (v : View E G) (ws : List ℕ) (xs : List (Option T)) → v.stand ≡ Outside → ((n : ℕ) → times n (numbers_of v) ≡ times n (numbers_from 0 count))
      → Final (Seen (Kept entries maker basis count base) id v) ws xs → Ends v xs
  ends id v ws xs outside every final =
      let s = final.0 in
      let r = final.1.0 in
      let at = final.1.1 in
      let home = r.slot.0 (alone s r id v at outside every) in
      let f = r.each id v at in
      record {
        value = home.0;
        there = final.4 0 (Some home.0) (ap (λ hs. get_elem? hs 0) home.1);
        basis_is = home.3;
        makers = subst (All (λ e. maker e < count)) (sym home.2) r.makers;
        records = subst (λ ys. All (IsRecord maker ys) (taken_over v.seen v.records)) (sym home.2) (records_taken maker v.seen r.history v.records f.seen f.records);
      }
