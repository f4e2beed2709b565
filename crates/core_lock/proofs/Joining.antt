-- A join keeps the rule.
use mathlib.Core.Option.{some}
use lib.ListN.{get_elem?}
use mathlib.Core.List.{map-append}
use Rattle.atomic_table.specs.Table.{State, Joins}
use Rattle.atomic_table.proofs.Lists.{set_else}
use Rattle.core_lock.specs.declared.view.Record.{Record}
use Rattle.core_lock.specs.declared.view.Stand.TheVariants.{Outside}
use Rattle.core_lock.specs.declared.view.View.{View}
use Rattle.core_lock.specs.Counts.{times, tickets_from}
use Rattle.core_lock.specs.Rule.{queued, queued_at, turning, waiting, waiting_at, turns, numbers_of, spent, IsServed, IsRecord, Fits, IsKeptIn, Kept}
use Rattle.core_lock.specs.Steps.{taken_over, joined}
use Rattle.core_lock.proofs.Totals.{total_set, times-append}
use Rattle.core_lock.proofs.Histories.{prefix_none, longer_prefix, records_taken, numbers-taken_over, length-taken_over}
use Rattle.core_lock.proofs.Facts.{each_set, live_of}
use Rattle.std.proofs.lemmas.List.Elements.{All-nil, All-append}
use Rattle.std.proofs.Common.{◌≡◌, ℕ, ◌+◌, ◌%◌, ◌<◌, ◌≤◌, List, length, get_or, set, Option, sym, refl, ap, ◌∙◌, subst, inl, inr, arith, length-append}

module _ {E G : Type 0} where
  pub times_joined : (n : ℕ) (v u : View E G) → times n (numbers_of (joined v u)) ≡ times n (numbers_of v) + times n (numbers_of u)
  times_joined n v u =
      ap (times n) (map-append (λ (x : Record E). x.number) (taken_over v.seen v.records) (taken_over u.seen u.records))
      ∙ (times-append n _ _ ∙ (λ i. times n (numbers-taken_over v.seen v.records i) + times n (numbers-taken_over u.seen u.records i)))

  pub length_joined : (v u : View E G) → length (joined v u).records ≡ length v.records + length u.records
  length_joined v u =
      length-append (taken_over v.seen v.records) (taken_over u.seen u.records)
      ∙ (λ i. length-taken_over v.seen v.records i + length-taken_over u.seen u.records i)

module _ {T E G : Type 0} (entries : T → List E) (maker : E → ℕ) (basis : T → G) (count : ℕ) (base : G) where
  abbrev Rule : State (Option T) (View E G) → Type 0
  Rule = Kept entries maker basis count base

  pub joins : (id : ℕ) (v : View E G) (other : ℕ) (u : View E G) → v.stand ≡ Outside → u.stand ≡ Outside → 0 < length v.records → Joins Rule id v other u (joined v u) spent
  joins id v other u outside outside' some_record s r at apart there =
      let S : ℕ = get_or s.words 1 0 in
      let w : View E G = joined v u in
      let vs : List (View E G) = set s.views id w in
      let us : List (View E G) = set vs other spent in
      let before : get_elem? s.views other ≡ some u = sym (set_else s.views id other w apart) ∙ there in
      let f = r.each id v at in
      let g = r.each other u before in
      let l = live_of count base v some_record f.alive in
      let as_many : waiting us ≡ waiting s.views =
      let h = total_set (λ (z : View E G). queued z.stand) s.views id v w at in
      let k = total_set (λ (z : View E G). queued z.stand) vs other u spent there in
      let z : queued u.stand ≡ 0 = ap queued outside' in omega arith in
      let same_turns : turns us ≡ turns s.views =
      let h = total_set (λ (z : View E G). turning z.stand) s.views id v w at in
      let k = total_set (λ (z : View E G). turning z.stand) vs other u spent there in
      let z : turning u.stand ≡ 0 = ap turning outside' in omega arith in
      record {
        history = r.history;
        wide = r.wide;
        counted = r.counted;
        small = r.small;
        next = r.next ∙ ap (λ (k : ℕ). (S + k) % 18446744073709551616) (sym as_many);
        tickets = λ y.
            let h = total_set (λ (z : View E G). queued_at y z.stand) s.views id v w at in
            let k = total_set (λ (z : View E G). queued_at y z.stand) vs other u spent there in
            let z : queued_at y u.stand ≡ 0 = ap (queued_at y) outside' in
            let q = r.tickets y in
            let c : waiting_at y us ≡ times y (tickets_from S (waiting s.views)) = omega arith in
            c ∙ ap (λ (z : ℕ). times y (tickets_from S z)) (sym as_many);
        one_turn = subst (λ (k : ℕ). k ≤ 1) (sym same_turns) r.one_turn;
        slot = subst (IsKeptIn entries basis r.history base s.homes) (sym same_turns) r.slot;
        numbers = λ n.
            let h = total_set (λ (z : View E G). times n (numbers_of z)) s.views id v w at in
            let k = total_set (λ (z : View E G). times n (numbers_of z)) vs other u spent there in
            let c : times n (numbers_of w) ≡ times n (numbers_of v) + times n (numbers_of u) =
            times_joined n v u in
            let q = r.numbers n in omega arith;
        whole =
            let h = total_set (λ (z : View E G). length z.records) s.views id v w at in
            let k = total_set (λ (z : View E G). length z.records) vs other u spent there in
            let c : length w.records ≡ length v.records + length u.records =
            length_joined v u in
            let q = r.whole in omega arith;
        few = r.few;
        makers = r.makers;
        each = each_set (λ j z. Fits maker r.history S count base z) vs other spent
            (record { seen = prefix_none r.history; records = All-nil (IsRecord maker r.history); served = tt; alive = inr refl })
            (λ j z _. each_set (λ j z. Fits maker r.history S count base z) s.views id w
            (record {
              seen = longer_prefix v.seen u.seen r.history f.seen g.seen;
              records = All-append (IsRecord maker r.history) (taken_over v.seen v.records) (taken_over u.seen u.records) (records_taken maker v.seen r.history v.records f.seen f.records) (records_taken maker u.seen r.history u.records g.seen g.records);
              served = subst (IsServed r.history S w) (sym outside) tt;
              alive = inl (record {
                count_is = l.count_is;
                basis_is = l.basis_is;
                recorded = let c : length w.records ≡ length v.records + length u.records = length_joined v u in omega arith;
              });
            })
            (λ j z _ e. r.each j z e) j z);
      }
