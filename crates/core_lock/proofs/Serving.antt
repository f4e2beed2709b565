-- An addition to SERVING keeps the rule: the value is in the slot, and the turn is over.
use mathlib.Core.Option.{some, none}
use lib.ListN.{get_elem?}
use Rattle.atomic_table.specs.Table.{State, Me, step, gives, stepped, Allows, put_back}
use Rattle.core_lock.specs.declared.view.Stand.{Stand}
use Rattle.core_lock.specs.declared.view.Stand.TheVariants.{Outside, Waits, Turn}
use Rattle.core_lock.specs.declared.view.View.{View}
use Rattle.core_lock.specs.Counts.{same, times, tickets_from}
use Rattle.core_lock.specs.Rule.{queued, queued_at, turning, waiting, waiting_at, turns, numbers_of, IsServed, Fits, Kept}
use Rattle.core_lock.specs.Steps.{with_none, served}
use Rattle.core_lock.proofs.Totals.{total_set}
use Rattle.core_lock.proofs.Tickets.{serve_next}
use Rattle.core_lock.proofs.Facts.{each_set, live_of, nobody_else, turns_once}
use Rattle.std.proofs.Common.{◌≡◌, ℕ, suc, ◌+◌, ◌%◌, ◌<◌, ◌≢◌, List, [], ◌∷◌, length, get_or, set, Some, Option, sym, refl, ap, ◌∙◌, subst, inl, arith, length-set, get_or-set_other, get_or-set_same}

module _ {T E G : Type 0} (entries : T → List E) (maker : E → ℕ) (basis : T → G) (count : ℕ) (base : G) where
  abbrev Rule : State (Option T) (View E G) → Type 0
  Rule = Kept entries maker basis count base

  still_served : (xs : List E) (serving later : ℕ) (u : View E G) → ((x : ℕ) → u.stand ≢ Turn x) → (st : Stand) → u.stand ≡ st → IsServed xs later u u.stand
  still_served xs serving later u not Outside is = subst (IsServed xs later u) (sym is) tt
  still_served xs serving later u not (Waits t) is = subst (IsServed xs later u) (sym is) tt
  still_served xs serving later u not (Turn t) is = absurd (not t is)

  ended : (s : State (Option T) (View E G)) (r : Rule s) (id : ℕ) (v : View E G) (held : List (ℕ × Option T)) (t : ℕ) (x : T) → get_elem? s.views id ≡ some v → v.stand ≡ Turn t → 0 < length v.records
      → held ≡ (0, Some x) ∷ [] → entries x ≡ v.seen → v.basis ≡ Some (basis x)
      → Rule (stepped s 1 ((get_or s.words 1 0 + 1) % 18446744073709551616) id held (with_none v) gives)
  ended s r id v held t x at turn some_record holds is basis_is =
      let S : ℕ = get_or s.words 1 0 in
      let m : ℕ = (S + 1) % 18446744073709551616 in
      let f = r.each id v at in
      let known = subst (IsServed r.history S v) turn f.served in
      let l = live_of count base v some_record f.alive in
      let w : View E G = with_none v in
      let vs : List (View E G) = set s.views id w in
      let wide = r.wide in
      let word0 : get_or (set s.words 1 m) 0 0 ≡ get_or s.words 0 0 = get_or-set_other s.words 1 0 m 0 (λ e. omega arith) in
      let word1 : get_or (set s.words 1 m) 1 0 ≡ m = get_or-set_same s.words 1 m 0 (omega arith) in
      let word2 : get_or (set s.words 1 m) 2 0 ≡ get_or s.words 2 0 = get_or-set_other s.words 1 2 m 0 (λ e. omega arith) in
      let less : waiting s.views ≡ suc (waiting vs) = let h = total_set (λ (u : View E G). queued u.stand) s.views id v w at in let z : queued v.stand ≡ 1 = ap queued turn in omega arith in
      let one = turns_once entries maker basis count base s r id v t at turn in
      let none_turns : turns vs ≡ 0 = let h = total_set (λ (u : View E G). turning u.stand) s.views id v w at in let z : turning v.stand ≡ 1 = ap turning turn in omega arith in
      let same_base : basis x ≡ base = let e : Some (basis x) ≡ Some base = sym basis_is ∙ l.basis_is in cc in
      let home : put_back s.homes held ≡ some (Some x) ∷ [] = (λ i. put_back (r.slot.1 one i) (holds i)) in
      let next = r.next in
      record {
        history = r.history;
        wide = length-set s.words 1 m ∙ r.wide;
        counted = word2 ∙ r.counted;
        small = subst (λ (k : ℕ). k < 18446744073709551616) (sym word1) (omega arith);
        next = word0 ∙ (let e : get_or s.words 0 0 ≡ (m + waiting vs) % 18446744073709551616 = let k = next ∙ ap (λ (z : ℕ). (S + z) % 18446744073709551616) less in omega arith in e ∙ ap (λ (z : ℕ). (z + waiting vs) % 18446744073709551616) (sym word1));
        tickets = λ y.
            let h = total_set (λ (u : View E G). queued_at y u.stand) s.views id v w at in
            let z : queued_at y v.stand ≡ same S y = ap (queued_at y) turn ∙ ap (λ (k : ℕ). same k y) known.0 in
            let q = r.tickets y ∙ ap (λ (k : ℕ). times y (tickets_from S k)) less in
            let c = serve_next y S (waiting vs) r.small in
            let b : waiting_at y vs ≡ times y (tickets_from m (waiting vs)) = omega arith in
            b ∙ ap (λ (k : ℕ). times y (tickets_from k (waiting vs))) (sym word1);
        one_turn = omega arith;
        slot = ((λ _. (x, home, is ∙ known.1, same_base)), (λ some_. absurd (omega arith)));
        numbers = λ k. let h = total_set (λ (u : View E G). times k (numbers_of u)) s.views id v w at in let q = r.numbers k in omega arith;
        whole = let h = total_set (λ (u : View E G). length u.records) s.views id v w at in let q = r.whole in omega arith;
        few = r.few;
        makers = r.makers;
        each = each_set (λ j u. Fits maker r.history (get_or (set s.words 1 m) 1 0) count base u) s.views id w
            (record { seen = f.seen; records = f.records; served = tt; alive = inl (record { count_is = l.count_is; basis_is = l.basis_is; recorded = l.recorded }) })
            (λ j u apart e. let g = r.each j u e in record {
              seen = g.seen;
              records = g.records;
              served = still_served r.history S (get_or (set s.words 1 m) 1 0) u (nobody_else entries maker basis count base s r id v t at turn j u apart e) u.stand refl;
              alive = g.alive;
            });
      }

  pub serves : (slots id : ℕ) (me : Me (Option T) (View E G)) (t : ℕ) (x : T) → me.0.stand ≡ Turn t → 0 < length me.0.records → me.1 ≡ (0, Some x) ∷ []
      → entries x ≡ me.0.seen → me.0.basis ≡ Some (basis x)
      → Allows Rule slots id me 1 (λ n. (n + 1) % 18446744073709551616) (served (step slots 1 1 0 none) me)
  serves slots id me t x turn some_record holds is basis_is s r long at small = (with_none me.0, gives, tt, ended s r id me.0 me.1 t x at turn some_record holds is basis_is, refl)
