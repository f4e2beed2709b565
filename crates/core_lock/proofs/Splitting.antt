-- A split keeps the rule.
use Rattle.atomic_table.specs.Table.{State, Splits}
use Rattle.atomic_table.proofs.Lists.{at_snoc}
use Rattle.core_lock.specs.declared.view.Record.{Record}
use Rattle.core_lock.specs.declared.view.Stand.TheVariants.{Outside}
use Rattle.core_lock.specs.declared.view.View.{View}
use Rattle.core_lock.specs.Counts.{times, tickets_from}
use Rattle.core_lock.specs.Rule.{queued, queued_at, turning, waiting, waiting_at, turns, numbers_of, IsServed, Fits, IsKeptIn, Kept}
use Rattle.core_lock.specs.Steps.{own_alone, all_others, split_left, split_right}
use Rattle.core_lock.proofs.Totals.{total_set, total_snoc}
use Rattle.core_lock.proofs.Histories.{records_alone, records_others}
use Rattle.core_lock.proofs.Facts.{each_set, live_of}
use Rattle.std.proofs.Common.{◌≡◌, ℕ, ◌+◌, ◌%◌, ◌<◌, ◌≤◌, List, [], ◌∷◌, ◌++◌, length, map, get_or, set, Option, sym, refl, ap, ◌∙◌, subst, inl, ⊎_elim, arith}

module _ {T E G : Type 0} (entries : T → List E) (maker : E → ℕ) (basis : T → G) (count : ℕ) (base : G) where
  abbrev Rule : State (Option T) (View E G) → Type 0
  Rule = Kept entries maker basis count base

  two_numbers : (k : ℕ) (rs : List (Record E)) → times k (map (λ r. r.number) (own_alone rs)) + times k (map (λ r. r.number) (all_others rs)) ≡ times k (map (λ r. r.number) rs)
  two_numbers k [] = refl
  two_numbers k (r ∷ rs) = omega arith

  two_lengths : (rs : List (Record E)) → length (own_alone rs) + length (all_others rs) ≡ length rs
  two_lengths [] = refl
  two_lengths (r ∷ rs) = omega arith

  some_alone : (rs : List (Record E)) → 1 < length rs → (0 < length (own_alone rs)) × (0 < length (all_others rs))
  some_alone [] h = absurd (omega arith)
  some_alone (r ∷ rs) h = (omega arith, omega arith)

  pub splits : (id : ℕ) (v : View E G) → v.stand ≡ Outside → 1 < length v.records → Splits Rule id v (split_left v) (split_right v)
  splits id v outside two s r at =
      let S : ℕ = get_or s.words 1 0 in
      let a : View E G = split_left v in
      let b : View E G = split_right v in
      let vs : List (View E G) = set s.views id a in
      let f = r.each id v at in
      let l = live_of count base v (omega arith) f.alive in
      let some_left = some_alone v.records two in
      let as_many : waiting (vs ++ b ∷ []) ≡ waiting s.views = let h = total_set (λ (u : View E G). queued u.stand) s.views id v a at in let k = total_snoc (λ (u : View E G). queued u.stand) vs b in omega arith in
      let same_turns : turns (vs ++ b ∷ []) ≡ turns s.views = let h = total_set (λ (u : View E G). turning u.stand) s.views id v a at in let k = total_snoc (λ (u : View E G). turning u.stand) vs b in omega arith in
      record {
        history = r.history;
        wide = r.wide;
        counted = r.counted;
        small = r.small;
        next = r.next ∙ ap (λ (k : ℕ). (S + k) % 18446744073709551616) (sym as_many);
        tickets = λ y.
            let h = total_set (λ (u : View E G). queued_at y u.stand) s.views id v a at in
            let k = total_snoc (λ (u : View E G). queued_at y u.stand) vs b in
            let q = r.tickets y in
            let c : waiting_at y (vs ++ b ∷ []) ≡ times y (tickets_from S (waiting s.views)) = omega arith in
            c ∙ ap (λ (z : ℕ). times y (tickets_from S z)) (sym as_many);
        one_turn = subst (λ (k : ℕ). k ≤ 1) (sym same_turns) r.one_turn;
        slot = subst (IsKeptIn entries basis r.history base s.homes) (sym same_turns) r.slot;
        numbers = λ n.
            let h = total_set (λ (u : View E G). times n (numbers_of u)) s.views id v a at in
            let k = total_snoc (λ (u : View E G). times n (numbers_of u)) vs b in
            let c = two_numbers n v.records in
            let q = r.numbers n in omega arith;
        whole =
            let h = total_set (λ (u : View E G). length u.records) s.views id v a at in
            let k = total_snoc (λ (u : View E G). length u.records) vs b in
            let c = two_lengths v.records in
            let q = r.whole in omega arith;
        few = r.few;
        makers = r.makers;
        each = λ j u e. ⊎_elim
            (each_set (λ j u. Fits maker r.history S count base u) s.views id a
            (record {
              seen = f.seen;
              records = records_alone maker r.history v.records f.records;
              served = subst (IsServed r.history S a) (sym outside) tt;
              alive = inl (record { count_is = l.count_is; basis_is = l.basis_is; recorded = some_left.0 });
            })
            (λ j u _ e. r.each j u e) j u)
            (λ (is : b ≡ u). subst (λ (z : View E G). Fits maker r.history S count base z) is (record {
              seen = f.seen;
              records = records_others maker r.history v.records f.records;
              served = tt;
              alive = inl (record { count_is = l.count_is; basis_is = l.basis_is; recorded = some_left.1 });
            }))
            (at_snoc vs b u j e);
      }
