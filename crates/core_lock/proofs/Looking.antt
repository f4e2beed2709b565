-- A look at SERVING keeps the rule: where it is the seat's ticket, the seat takes the value.
use mathlib.Core.Option.{some, none}
use mathlib.Core.Logic.{dite}
use native.Mathlib.Decide.{ℕ_discrete}
use lib.ListN.{get_elem?}
use lib.Seq.{set-get_or}
use Rattle.atomic_table.specs.Table.{State, Me, step, keeps, takes, stepped, Allows}
use Rattle.atomic_table.proofs.Lists.{set_again}
use Rattle.core_lock.specs.declared.view.Stand.TheVariants.{Waits}
use Rattle.core_lock.specs.declared.view.View.{View}
use Rattle.core_lock.specs.Counts.{same, times, tickets_from}
use Rattle.core_lock.specs.Rule.{queued, queued_at, turning, waiting, waiting_at, turns, numbers_of, IsRecord, Fits, Kept}
use Rattle.core_lock.specs.Steps.{with_turn, looked, Begins}
use Rattle.core_lock.proofs.Totals.{total_set}
use Rattle.core_lock.proofs.Histories.{prefix_self}
use Rattle.core_lock.proofs.Facts.{each_set, live_of, nobody_turns}
use Rattle.std.specs.Prelude.{All}
use Rattle.std.proofs.Common.{◌≡◌, ℕ, ◌+◌, ◌%◌, ◌<◌, List, [], ◌∷◌, length, get_or, set, Some, Option, sym, refl, ap, ◌∙◌, subst, inl, arith}

module _ {T E G : Type 0} (entries : T → List E) (maker : E → ℕ) (basis : T → G) (count : ℕ) (base : G) where
  abbrev Rule : State (Option T) (View E G) → Type 0
  Rule = Kept entries maker basis count base

  -- a load that changes nothing
  unmoved : (s : State (Option T) (View E G)) (r : Rule s) (i id : ℕ) (v : View E G) (held : List (ℕ × Option T)) → get_elem? s.views id ≡ some v → Rule (stepped s i (get_or s.words i 0) id held v keeps)
  unmoved s r i id v held at = subst Rule (λ k. record { words = sym (set-get_or s.words i 0) k; homes = s.homes; views = sym (set_again s.views id v at) k }) r

  taken : (s : State (Option T) (View E G)) (r : Rule s) (id : ℕ) (v : View E G) (held : List (ℕ × Option T)) (t : ℕ) (x : T) → get_elem? s.views id ≡ some v → v.stand ≡ Waits t → 0 < length v.records
      → get_or s.words 1 0 ≡ t → turns s.views ≡ 0 → s.homes ≡ some (Some x) ∷ [] → entries x ≡ r.history
      → Rule (stepped s 1 (get_or s.words 1 0) id held (with_turn t (entries x) v) (takes 0 (Some x)))
  taken s r id v held t x at waits some_record hit nobody home is =
      let w : View E G = with_turn t (entries x) v in
      let vs : List (View E G) = set s.views id w in
      let S : ℕ = get_or s.words 1 0 in
      let as_many : waiting vs ≡ waiting s.views = let h = total_set (λ (u : View E G). queued u.stand) s.views id v w at in let z : queued v.stand ≡ 1 = ap queued waits in omega arith in
      let one : turns vs ≡ 1 = let h = total_set (λ (u : View E G). turning u.stand) s.views id v w at in let z : turning v.stand ≡ 0 = ap turning waits in omega arith in
      let out : set s.homes 0 none ≡ none ∷ [] = ap (λ hs. set hs 0 none) home in
      let settled : Rule (record { words = s.words; homes = none ∷ []; views = vs }) = record {
        history = r.history;
        wide = r.wide;
        counted = r.counted;
        small = r.small;
        next = r.next ∙ ap (λ (k : ℕ). (S + k) % 18446744073709551616) (sym as_many);
        tickets = λ y.
            let h = total_set (λ (u : View E G). queued_at y u.stand) s.views id v w at in
            let z : queued_at y v.stand ≡ same t y = ap (queued_at y) waits in
            let q = r.tickets y in
            let b : waiting_at y vs ≡ times y (tickets_from S (waiting s.views)) = omega arith in
            b ∙ ap (λ (k : ℕ). times y (tickets_from S k)) (sym as_many);
        one_turn = omega arith;
        slot = ((λ none_. absurd (omega arith)), (λ _. refl));
        numbers = λ k. let h = total_set (λ (u : View E G). times k (numbers_of u)) s.views id v w at in let q = r.numbers k in omega arith;
        whole = let h = total_set (λ (u : View E G). length u.records) s.views id v w at in let q = r.whole in omega arith;
        few = r.few;
        makers = r.makers;
        each = each_set (λ j u. Fits maker r.history S count base u) s.views id w
            (let f = r.each id v at in let l = live_of count base v some_record f.alive in
            record { seen = subst (λ ys. mathlib.Core.List.IsPrefix ys r.history) (sym is) (prefix_self r.history); records = f.records; served = (sym hit, is); alive = inl (record { count_is = l.count_is; basis_is = l.basis_is; recorded = l.recorded }) })
            (λ j u _ e. r.each j u e);
      } in
      subst Rule (λ k. record { words = sym (set-get_or s.words 1 0) k; homes = sym out k; views = vs }) settled

  pub looks : (slots id : ℕ) (me : Me (Option T) (View E G)) (t : ℕ) → me.0.stand ≡ Waits t → 0 < length me.0.records
      → Allows Rule slots id me 1 (λ n. n) (looked entries maker basis (step slots 1 0 0 none) me)
  looks slots id me t waits some_record s r long at small = dite (ℕ_discrete (get_or s.words 1 0) t)
      (λ hit.
      let nobody = nobody_turns entries maker basis count base s r id me.0 t at waits (sym hit) in
      let home = r.slot.0 nobody in
      let x : T = home.0 in
      let f = r.each id me.0 at in
      let l = live_of count base me.0 some_record f.alive in
      let begun : Begins entries maker basis t me (with_turn t (entries x) me.0, (0, Some x) ∷ me.1) = record {
        value = x;
        after = refl;
        seen = subst (λ ys. mathlib.Core.List.IsPrefix me.0.seen ys) (sym home.2) f.seen;
        records = subst (λ ys. All (IsRecord maker ys) me.0.records) (sym home.2) f.records;
        basis_is = l.basis_is ∙ ap Some (sym home.3);
      } in (
        with_turn t (entries x) me.0,
        takes 0 (Some x),
        ap (λ hs. get_elem? hs 0) home.1,
        taken s r id me.0 me.1 t x at waits some_record hit nobody home.1 home.2,
        λ t' waits'.
            let one : t ≡ t' = let w : Waits t ≡ Waits t' = sym waits ∙ waits' in cc in
            ((λ _. subst (λ z. Begins entries maker basis z me (with_turn t (entries x) me.0, (0, Some x) ∷ me.1)) one begun), λ ne. absurd (ne (hit ∙ one))),
      ))
      (λ miss. (
        me.0,
        keeps,
        tt,
        unmoved s r 1 id me.0 me.1 at,
        λ t' waits'.
            let one : t ≡ t' = let w : Waits t ≡ Waits t' = sym waits ∙ waits' in cc in
            ((λ e. absurd (miss (e ∙ sym one))), λ _. refl),
      ))
