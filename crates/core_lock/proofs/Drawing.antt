-- A draw of a ticket keeps the rule.
use Rattle.std.proofs.Common.{◌≡◌, ℕ, suc, ◌+◌, ◌%◌, ◌<◌, ◌≤◌, List, length, get_or, set, Option, sym, refl, ap, ◌∙◌, subst, inl, arith, length-set, get_or-set_other, get_or-set_same}
use mathlib.Core.Option.{some, none}
use lib.ListN.{get_elem?}
use Rattle.atomic_table.specs.Table.{State, Me, step, keeps, stepped, Allows}
use Rattle.core_lock.specs.declared.view.Stand.TheVariants.{Outside}
use Rattle.core_lock.specs.declared.view.View.{View}
use Rattle.core_lock.specs.Counts.{same, times, tickets_from}
use Rattle.core_lock.specs.Rule.{queued, queued_at, turning, waiting, waiting_at, turns, numbers_of, Fits, IsKeptIn, Kept}
use Rattle.core_lock.specs.Steps.{with_ticket, drew}
use Rattle.core_lock.proofs.Totals.{total_set}
use Rattle.core_lock.proofs.Facts.{each_set, live_of}

module _ {T E G : Type 0} (entries : T → List E) (maker : E → ℕ) (basis : T → G) (count : ℕ) (base : G) where
  drawn : (s : State (Option T) (View E G)) (r : Kept entries maker basis count base s) (id : ℕ) (v : View E G) (held : List (ℕ × Option T)) → get_elem? s.views id ≡ some v → v.stand ≡ Outside → 0 < length v.records
      → Kept entries maker basis count base (stepped s 0 ((get_or s.words 0 0 + 1) % 18446744073709551616) id held (with_ticket (get_or s.words 0 0) v) keeps)
  drawn s r id v held at outside some_record =
      let n : ℕ = get_or s.words 0 0 in
      let m : ℕ = (n + 1) % 18446744073709551616 in
      let w : View E G = with_ticket n v in
      let vs : List (View E G) = set s.views id w in
      let wide = r.wide in
      let word0 : get_or (set s.words 0 m) 0 0 ≡ m = get_or-set_same s.words 0 m 0 (omega arith) in
      let word1 : get_or (set s.words 0 m) 1 0 ≡ get_or s.words 1 0 = get_or-set_other s.words 0 1 m 0 (λ e. omega arith) in
      let word2 : get_or (set s.words 0 m) 2 0 ≡ get_or s.words 2 0 = get_or-set_other s.words 0 2 m 0 (λ e. omega arith) in
      let more : waiting vs ≡ suc (waiting s.views) = let h = total_set (λ (u : View E G). queued u.stand) s.views id v w at in let z : queued v.stand ≡ 0 = ap queued outside in omega arith in
      let same_turns : turns vs ≡ turns s.views = let h = total_set (λ (u : View E G). turning u.stand) s.views id v w at in let z : turning v.stand ≡ 0 = ap turning outside in omega arith in
      let next = r.next in
      record {
        history = r.history;
        wide = length-set s.words 0 m ∙ r.wide;
        counted = word2 ∙ r.counted;
        small = subst (λ (k : ℕ). k < 18446744073709551616) (sym word1) r.small;
        next = word0 ∙ (let e : m ≡ (get_or s.words 1 0 + suc (waiting s.views)) % 18446744073709551616 = omega arith in e ∙ (λ i. (sym word1 i + sym more i) % 18446744073709551616));
        tickets = λ x.
            let h = total_set (λ (u : View E G). queued_at x u.stand) s.views id v w at in
            let z : queued_at x v.stand ≡ 0 = ap (queued_at x) outside in
            let t = r.tickets x in
            let a : same n x ≡ same ((get_or s.words 1 0 + waiting s.views) % 18446744073709551616) x = ap (λ (k : ℕ). same k x) next in
            let b : waiting_at x vs ≡ times x (tickets_from (get_or s.words 1 0) (suc (waiting s.views))) = omega arith in
            b ∙ (λ i. times x (tickets_from (sym word1 i) (sym more i)));
        one_turn = subst (λ (k : ℕ). k ≤ 1) (sym same_turns) r.one_turn;
        slot = subst (IsKeptIn entries basis r.history base s.homes) (sym same_turns) r.slot;
        numbers = λ k. let h = total_set (λ (u : View E G). times k (numbers_of u)) s.views id v w at in let t = r.numbers k in omega arith;
        whole = let h = total_set (λ (u : View E G). length u.records) s.views id v w at in let t = r.whole in omega arith;
        few = r.few;
        makers = r.makers;
        each = subst (λ (k : ℕ). (j : ℕ) (u : View E G) → get_elem? vs j ≡ some u → Fits maker r.history k count base u) (sym word1)
            (each_set (λ j u. Fits maker r.history (get_or s.words 1 0) count base u) s.views id w
            (let f = r.each id v at in let l = live_of count base v some_record f.alive in
            record { seen = f.seen; records = f.records; served = tt; alive = inl (record { count_is = l.count_is; basis_is = l.basis_is; recorded = l.recorded }) })
            (λ j u _ e. r.each j u e));
      }

  pub draws : (slots id : ℕ) (me : Me (Option T) (View E G)) → me.0.stand ≡ Outside → 0 < length me.0.records
      → Allows (Kept entries maker basis count base) slots id me 0 (λ n. (n + 1) % 18446744073709551616) (drew (step slots 0 1 0 none) me)
  draws slots id me outside some_record s r long at small = (with_ticket (get_or s.words 0 0) me.0, keeps, tt, drawn s r id me.0 me.1 at outside some_record, refl)
