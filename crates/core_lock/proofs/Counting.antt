-- A store of LENGTH keeps the rule: the history becomes what the value that is put back stands for.
use mathlib.Core.Option.{some, none}
use lib.ListN.{get_elem?}
use Rattle.atomic_table.specs.Table.{State, Me, step, keeps, stepped, Allows}
use Rattle.core_lock.specs.declared.view.Stand.{Stand}
use Rattle.core_lock.specs.declared.view.Stand.TheVariants.{Outside, Waits, Turn}
use Rattle.core_lock.specs.declared.view.View.{View}
use Rattle.core_lock.specs.Counts.{times, tickets_from}
use Rattle.core_lock.specs.Rule.{queued, queued_at, turning, waiting, waiting_at, turns, numbers_of, IsServed, IsRecord, Fits, Kept}
use Rattle.core_lock.specs.Steps.{own_number, with_entries, counted}
use Rattle.core_lock.proofs.Totals.{total_set}
use Rattle.core_lock.proofs.Histories.{prefix_self, prefix_trans, prefix_more, records_stay, records_grow, numbers-remade, length-remade}
use Rattle.core_lock.proofs.Facts.{each_set, live_of, nobody_else, turns_once, own_alone_here, own_at_most_once, own_below}
use Rattle.std.specs.Prelude.{All}
use Rattle.std.proofs.lemmas.List.Elements.{All-append, All-weaker}
use Rattle.std.proofs.Common.{◌≡◌, ℕ, ◌+◌, ◌%◌, ◌<◌, ◌≤◌, ◌≢◌, List, [], ◌∷◌, ◌++◌, length, get_or, set, Some, None, Option, sym, refl, ap, ◌∙◌, subst, inl, arith, length-set, get_or-set_other, get_or-set_same}

module _ {T E G : Type 0} (entries : T → List E) (maker : E → ℕ) (basis : T → G) (count : ℕ) (base : G) where
  abbrev Rule : State (Option T) (View E G) → Type 0
  Rule = Kept entries maker basis count base

  still_served : (xs ys : List E) (serving : ℕ) (u : View E G) → ((x : ℕ) → u.stand ≢ Turn x) → (st : Stand) → u.stand ≡ st → IsServed ys serving u u.stand
  still_served xs ys serving u not Outside is = subst (IsServed ys serving u) (sym is) tt
  still_served xs ys serving u not (Waits t) is = subst (IsServed ys serving u) (sym is) tt
  still_served xs ys serving u not (Turn t) is = absurd (not t is)

  grown : (s : State (Option T) (View E G)) (r : Rule s) (id : ℕ) (v : View E G) (held : List (ℕ × Option T)) (t n : ℕ) (new : List E) → get_elem? s.views id ≡ some v → v.stand ≡ Turn t → 0 < length v.records
      → All (λ e. maker e ≡ own_number v.records) new → n ≡ length (v.seen ++ new)
      → Rule (stepped s 2 n id held (with_entries maker (v.seen ++ new) v) keeps)
  grown s r id v held t n new at turn some_record mine long =
      let S : ℕ = get_or s.words 1 0 in
      let f = r.each id v at in
      let known = subst (IsServed r.history S v) turn f.served in
      let now : List E = r.history ++ new in
      let same_list : v.seen ++ new ≡ now = ap (λ ys. ys ++ new) known.1 in
      let w : View E G = with_entries maker now v in
      let vs : List (View E G) = set s.views id w in
      let own : ℕ = own_number v.records in
      let wide = r.wide in
      let word0 : get_or (set s.words 2 n) 0 0 ≡ get_or s.words 0 0 = get_or-set_other s.words 2 0 n 0 (λ e. omega arith) in
      let word1 : get_or (set s.words 2 n) 1 0 ≡ S = get_or-set_other s.words 2 1 n 0 (λ e. omega arith) in
      let word2 : get_or (set s.words 2 n) 2 0 ≡ n = get_or-set_same s.words 2 n 0 (omega arith) in
      let as_many : waiting vs ≡ waiting s.views = let h = total_set (λ (u : View E G). queued u.stand) s.views id v w at in omega arith in
      let same_turns : turns vs ≡ turns s.views = let h = total_set (λ (u : View E G). turning u.stand) s.views id v w at in omega arith in
      let one = turns_once entries maker basis count base s r id v t at turn in
      let settled : Rule (stepped s 2 n id held w keeps) = record {
        history = now;
        wide = length-set s.words 2 n ∙ r.wide;
        counted = word2 ∙ (long ∙ ap length same_list);
        small = subst (λ (k : ℕ). k < 18446744073709551616) (sym word1) r.small;
        next = word0 ∙ (r.next ∙ (λ i. (sym word1 i + sym as_many i) % 18446744073709551616));
        tickets = λ y.
            let h = total_set (λ (u : View E G). queued_at y u.stand) s.views id v w at in
            let q = r.tickets y in
            let b : waiting_at y vs ≡ times y (tickets_from S (waiting s.views)) = omega arith in
            b ∙ (λ i. times y (tickets_from (sym word1 i) (sym as_many i)));
        one_turn = subst (λ (k : ℕ). k ≤ 1) (sym same_turns) r.one_turn;
        slot = ((λ none_. absurd (omega arith)), (λ _. r.slot.1 one));
        numbers = λ k.
            let h = total_set (λ (u : View E G). times k (numbers_of u)) s.views id v w at in
            let e : times k (numbers_of w) ≡ times k (numbers_of v) = ap (times k) (numbers-remade maker now v.records) in
            let q = r.numbers k in omega arith;
        whole =
            let h = total_set (λ (u : View E G). length u.records) s.views id v w at in
            let e : length w.records ≡ length v.records = length-remade maker now v.records in
            let q = r.whole in omega arith;
        few = r.few;
        makers =
            let below = own_below entries maker basis count base s r id v at some_record in
            All-append (λ e. maker e < count) r.history new r.makers (All-weaker (λ e. maker e ≡ own) (λ e. maker e < count) (λ e is. subst (λ (k : ℕ). k < count) (sym is) below) new mine);
        each = subst (λ (k : ℕ). (j : ℕ) (u : View E G) → get_elem? vs j ≡ some u → Fits maker now k count base u) (sym word1)
            (each_set (λ j u. Fits maker now S count base u) s.views id w
            (let l = live_of count base v some_record f.alive in
            record {
              seen = prefix_self now;
              records = records_grow maker own r.history new mine v.records refl (own_at_most_once entries maker basis count base s r id v at) f.records;
              served = subst (IsServed now S w) (sym turn) (known.0, refl);
              alive = inl (record { count_is = l.count_is; basis_is = l.basis_is; recorded = subst (λ (k : ℕ). 0 < k) (sym (length-remade maker now v.records)) some_record });
            })
            (λ j u apart e. let g = r.each j u e in record {
              seen = prefix_trans u.seen r.history now g.seen (prefix_more r.history new);
              records = records_stay maker own r.history new mine u.records (own_alone_here entries maker basis count base s r id v at some_record j u apart e) g.records;
              served = still_served r.history now S u (nobody_else entries maker basis count base s r id v t at turn j u apart e) u.stand refl;
              alive = g.alive;
            }));
      } in
      subst (λ ys. Rule (stepped s 2 n id held (with_entries maker ys v) keeps)) (sym same_list) settled

  abbrev value_or : T → Option T → T
  value_or d None = d
  value_or d (Some x) = x

  abbrev first_value : T → List (ℕ × Option T) → T
  first_value d [] = d
  first_value d (h ∷ hs) = value_or d h.1

  pub counts : (slots id : ℕ) (me : Me (Option T) (View E G)) (t n : ℕ) (x : T) (new : List E) → me.0.stand ≡ Turn t → 0 < length me.0.records → me.1 ≡ (0, Some x) ∷ []
      → entries x ≡ me.0.seen ++ new → All (λ e. maker e ≡ own_number me.0.records) new → n ≡ length (entries x)
      → Allows Rule slots id me 2 (λ _. n) (λ _. counted entries maker (step slots 2 n 0 none) me n)
  counts slots id me t n x new turn some_record holds grows mine is s r long at small =
      let f = r.each id me.0 at in
      let known = subst (IsServed r.history (get_or s.words 1 0) me.0) turn f.served in (
        with_entries maker (entries x) me.0,
        keeps,
        tt,
        subst (λ ys. Rule (stepped s 2 n id me.1 (with_entries maker ys me.0) keeps)) (sym grows) (grown s r id me.0 me.1 t n new at turn some_record mine (is ∙ ap length grows)),
        λ y held.
            let one : x ≡ y = ap (first_value x) (sym holds ∙ held) in
            (ap (λ (z : T). (with_entries maker (entries z) me.0, me.1)) one, subst (λ ys. All (IsRecord maker ys) me.0.records) (sym known.1) f.records),
      )
