-- What the rule says of single views, for the proofs that the steps keep it.
use Rattle.std.proofs.Common.{◌≡◌, ℕ, ◌<◌, ◌≤◌, ◌≢◌, ◌⊎◌, List, [], ◌∷◌, length, map, get_or, set, Option, sym, refl, ap, ◌∙◌, subst, inl, inr, ⊎_elim, arith}
use mathlib.Core.Option.{some, some-injective}
use lib.ListN.{get_elem?}
use Rattle.atomic_table.specs.Table.{State}
use Rattle.atomic_table.proofs.Lists.{at_set}
use Rattle.core_lock.specs.declared.view.Record.{Record}
use Rattle.core_lock.specs.declared.view.Stand.{Stand}
use Rattle.core_lock.specs.declared.view.Stand.TheVariants.{Outside, Waits, Turn}
use Rattle.core_lock.specs.declared.view.View.{View}
use Rattle.core_lock.specs.Counts.{times, numbers_from, tickets_from}
use Rattle.core_lock.specs.Rule.{queued, queued_at, turning, waiting, turns, numbers_of, spent, IsLive, IsServed, Kept}
use Rattle.core_lock.specs.Steps.{own_number}
use Rattle.core_lock.proofs.Totals.{total_at, total_two, total_none, total_below, same_self, times_once, times_within}
use Rattle.core_lock.proofs.Tickets.{served_once}

-- what holds of each view after one is changed
pub each_set : {A : Type 0} (P : ℕ → A → Type 0) (l : List A) (i : ℕ) (w : A) → P i w → ((j : ℕ) (u : A) → j ≢ i → get_elem? l j ≡ some u → P j u) → (j : ℕ) (u : A) → get_elem? (set l i w) j ≡ some u → P j u
each_set {A} P l i w mine others j u e =
    ⊎_elim
    (λ (x : (j ≡ i) × (w ≡ u)). subst (λ (y : ℕ × A). P y.0 y.1) (λ k. (sym x.0 k, x.1 k)) mine)
    (λ (x : (j ≢ i) × (get_elem? l j ≡ some u)). others j u x.0 x.1)
    (at_set l i j w u e)

queued_once : (st : Stand) → queued st ≤ 1
queued_once Outside = omega arith
queued_once (Waits t) = omega arith
queued_once (Turn t) = omega arith

-- the same ticket at two seats counts twice
ticket_here : (t : ℕ) (st : Stand) → (st ≡ Waits t) ⊎ (st ≡ Turn t) → queued_at t st ≡ 1
ticket_here t st is = ⊎_elim (λ (e : st ≡ Waits t). ap (queued_at t) e ∙ same_self t t refl) (λ (e : st ≡ Turn t). ap (queued_at t) e ∙ same_self t t refl) is

-- one's own number stands among those of one's records
pub own_once : {E : Type 0} (rs : List (Record E)) → 0 < length rs → 0 < times (own_number rs) (map (λ r. r.number) rs)
own_once [] some_record = absurd (omega arith)
own_once (r ∷ rs) some_record = let h = same_self r.number r.number refl in omega arith

module _ {E G : Type 0} where
  pub live_of : (count : ℕ) (base : G) (v : View E G) → 0 < length v.records → IsLive count base v ⊎ (v ≡ spent) → IsLive count base v
  live_of count base v some_record is = ⊎_elim (λ (l : IsLive count base v). l)
      (λ (e : v ≡ spent). let none : length v.records ≡ 0 = ap (λ (u : View E G). length u.records) e in absurd (omega arith)) is

  queued_below : (count : ℕ) (base : G) (v : View E G) → IsLive count base v ⊎ (v ≡ spent) → queued v.stand ≤ length v.records
  queued_below count base v is = ⊎_elim
      (λ (l : IsLive count base v). let a = queued_once v.stand in let b = l.recorded in omega arith)
      (λ (e : v ≡ spent). let none : queued v.stand ≡ 0 = ap (λ (u : View E G). queued u.stand) e in omega arith) is

module _ {T E G : Type 0} (entries : T → List E) (maker : E → ℕ) (basis : T → G) (count : ℕ) (base : G) (s : State (Option T) (View E G)) (r : Kept entries maker basis count base s) where
  pub few_wait : waiting s.views ≤ 64
  few_wait =
      let a = total_below (λ (v : View E G). queued v.stand) (λ (v : View E G). length v.records) s.views (λ j u e. queued_below count base u (r.each j u e).alive) in
      let b = r.whole in let c = r.few in omega arith

  -- who waits with the ticket that is served finds that nobody has the turn
  pub nobody_turns : (id : ℕ) (v : View E G) (t : ℕ) → get_elem? s.views id ≡ some v → v.stand ≡ Waits t → t ≡ get_or s.words 1 0 → turns s.views ≡ 0
  nobody_turns id v t at waits first = total_none (λ (u : View E G). turning u.stand) s.views (λ j u e. outside j u e u.stand refl)
    where
      outside : (j : ℕ) (u : View E G) → get_elem? s.views j ≡ some u → (st : Stand) → u.stand ≡ st → turning u.stand ≡ 0
      outside j u e Outside is = ap turning is
      outside j u e (Waits x) is = ap turning is
      outside j u e (Turn x) is =
          let known = subst (IsServed r.history (get_or s.words 1 0) u) is (r.each j u e).served in
          let stand_t : u.stand ≡ Turn t = is ∙ ap Turn (known.0 ∙ sym first) in
          let apart : id ≢ j = λ same_seat. let one : v ≡ u = some-injective v u (sym at ∙ (ap (get_elem? s.views) same_seat ∙ e)) in let w : Waits t ≡ Turn t = sym waits ∙ (ap (λ (z : View E G). z.stand) one ∙ stand_t) in absurd cc in
          let two = total_two (λ (z : View E G). queued_at t z.stand) s.views id j v u apart at e in
          let a = ticket_here t v.stand (inl waits) in
          let b = ticket_here t u.stand (inr stand_t) in
          let c = r.tickets t in
          let d : times t (tickets_from (get_or s.words 1 0) (waiting s.views)) ≤ 1 = subst (λ (z : ℕ). times z (tickets_from (get_or s.words 1 0) (waiting s.views)) ≤ 1) (sym first) (served_once (get_or s.words 1 0) (waiting s.views) r.small (let f = few_wait in omega arith)) in
          absurd (omega arith)

  -- while a seat has the turn no other has
  pub nobody_else : (id : ℕ) (v : View E G) (t : ℕ) → get_elem? s.views id ≡ some v → v.stand ≡ Turn t → (j : ℕ) (u : View E G) → j ≢ id → get_elem? s.views j ≡ some u → (x : ℕ) → u.stand ≢ Turn x
  nobody_else id v t at turn j u apart e x is =
      let two = total_two (λ (z : View E G). turning z.stand) s.views id j v u (λ h. apart (sym h)) at e in
      let a : turning v.stand ≡ 1 = ap turning turn in
      let b : turning u.stand ≡ 1 = ap turning is in
      let c = r.one_turn in absurd (omega arith)

  pub turns_once : (id : ℕ) (v : View E G) (t : ℕ) → get_elem? s.views id ≡ some v → v.stand ≡ Turn t → turns s.views ≡ 1
  turns_once id v t at turn =
      let one = total_at (λ (z : View E G). turning z.stand) s.views id v at in
      let a : turning v.stand ≡ 1 = ap turning turn in
      let c = r.one_turn in omega arith

  -- a number of one's own is no other's
  pub own_alone_here : (id : ℕ) (v : View E G) → get_elem? s.views id ≡ some v → 0 < length v.records → (j : ℕ) (u : View E G) → j ≢ id → get_elem? s.views j ≡ some u → times (own_number v.records) (numbers_of u) ≡ 0
  own_alone_here id v at some_record j u apart e =
      let n : ℕ = own_number v.records in
      let two = total_two (λ (z : View E G). times n (numbers_of z)) s.views id j v u (λ h. apart (sym h)) at e in
      let a = own_once v.records some_record in
      let b = r.numbers n in
      let c = times_once n 0 count in omega arith

  pub own_at_most_once : (id : ℕ) (v : View E G) → get_elem? s.views id ≡ some v → times (own_number v.records) (numbers_of v) ≤ 1
  own_at_most_once id v at =
      let n : ℕ = own_number v.records in
      let one = total_at (λ (z : View E G). times n (numbers_of z)) s.views id v at in
      let b = r.numbers n in
      let c = times_once n 0 count in omega arith

  pub own_below : (id : ℕ) (v : View E G) → get_elem? s.views id ≡ some v → 0 < length v.records → own_number v.records < count
  own_below id v at some_record =
      let n : ℕ = own_number v.records in
      let one = total_at (λ (z : View E G). times n (numbers_of z)) s.views id v at in
      let a = own_once v.records some_record in
      let b = r.numbers n in
      let c : 0 < times n (numbers_from 0 count) = omega arith in
      let d = times_within n 0 count c in omega arith
