-- What a pass with one record made, after a turn.
use Rattle.std.proofs.Common.{◌≡◌, ◌<◌, Some, Option, ℕ, List, [], ◌∷◌, ◌++◌, sym, ap, ◌∙◌, subst}
use Rattle.std.specs.Prelude.{All}
use Rattle.std.proofs.lemmas.List.Elements.{All-head}
use mathlib.Core.List.{append_cancel_left}
use Rattle.core_lock.specs.declared.view.Record.{Record}
use Rattle.core_lock.specs.Counts.{made_by}
use Rattle.core_lock.specs.Rule.{IsRecord}
use Rattle.atomic_table.specs.Table.{Me, rest}
use Rattle.core_lock.specs.declared.lock.CoreLock.{CoreLock}
use Rattle.core_lock.specs.declared.pass.Pass.{Pass}
use Rattle.core_lock.specs.declared.view.View.{View}
use Rattle.core_lock.specs.Passes.{count_of, view_of, number, seen, made, IsPassOf}
use Rattle.core_lock.specs.Steps.{own_number, own_made, remade, with_entries, with_none}
use Rattle.core_lock.proofs.Histories.{made_by-append, made_by_all}

module _ {E : Type 0} (maker : E → ℕ) where
  pub grown_by : (seen : List E) (rs : List (Record E)) (xs more : List E) (r : Record E) → rs ≡ r ∷ [] → All (IsRecord maker seen) rs → xs ≡ seen ++ more
      → (added : List E) → xs ≡ seen ++ added → All (λ e. maker e ≡ r.number) added
      → own_made (remade maker xs rs) ≡ own_made rs ++ more
  grown_by seen rs xs more r one is grows added grows' mine =
      let head = All-head (IsRecord maker seen) r [] (subst (All (IsRecord maker seen)) one is) in
      let same_more : added ≡ more = append_cancel_left seen added more (sym grows' ∙ grows) in
      ap (λ ys. own_made (remade maker xs ys)) one
      ∙ (ap (made_by maker r.number) grows
      ∙ (made_by-append maker r.number seen more
      ∙ ((λ i. sym head.1 i ++ made_by_all maker r.number more (subst (All (λ e. maker e ≡ r.number)) same_more mine) i)
      ∙ ap (λ ys. own_made ys ++ more) (sym one))))

module _ {T E G : Type 0} (entries : T → List E) (maker : E → ℕ) where
  -- the three steps of a give-back, as one change of the view
  pub after_back : (m m1 m2 m3 : Me (Option T) (View E G)) (x : T) → m1 ≡ (m.0, (0, Some x) ∷ [])
      → ((y : T) → m1.1 ≡ (0, Some y) ∷ [] → (m2 ≡ (with_entries maker (entries y) m1.0, m1.1)) × All (IsRecord maker m1.0.seen) m1.0.records)
      → m3 ≡ (with_none m2.0, rest m2.1)
      → (m3.0 ≡ with_none (with_entries maker (entries x) m.0)) × All (IsRecord maker m.0.seen) m.0.records
  after_back m m1 m2 m3 x put counts serve =
      let view : m1.0 ≡ m.0 = ap (λ (h : Me (Option T) (View E G)). h.0) put in
      let counted = counts x (ap (λ (h : Me (Option T) (View E G)). h.1) put) in (
        ap (λ (h : Me (Option T) (View E G)). h.0) serve
            ∙ (ap (λ (h : Me (Option T) (View E G)). with_none h.0) counted.0 ∙ ap (λ (v : View E G). with_none (with_entries maker (entries x) v)) view),
        subst (λ (v : View E G). All (IsRecord maker v.seen) v.records) view counted.1,
      )

  pub still_of : (basis : T → G) (lock : CoreLock T E G) (p q : Pass T E G) (xs : List E) → IsPassOf maker basis lock p → q.seat.table_id ≡ p.seat.table_id → number q ≡ number p
      → view_of q ≡ with_none (with_entries maker xs (view_of p)) → IsPassOf maker basis lock q
  still_of basis lock p q xs own same_table same_number view =
      let records : (view_of q).records ≡ remade maker xs (own.alone.0 ∷ []) = ap (λ (v : View E G). v.records) view ∙ ap (remade maker xs) own.alone.1 in
      let n : own.alone.0.number ≡ number q = sym (ap own_number own.alone.1) ∙ (own.numbered ∙ sym same_number) in
      let seen_is : seen q ≡ xs = ap (λ (v : View E G). v.seen) view in
      record {
        table_is = same_table ∙ own.table_is;
        count_is = ap (λ (v : View E G). v.count) view ∙ own.count_is;
        basis_is = ap (λ (v : View E G). v.basis) view ∙ own.basis_is;
        alone = (_, records, own.alone.2);
        numbered = ap own_number records ∙ (sym (ap own_number own.alone.1) ∙ (own.numbered ∙ sym same_number));
        below = subst (λ (k : ℕ). k < count_of lock) (sym same_number) own.below;
        own_entries = ap own_made records ∙ (λ i. made_by maker (n i) (sym seen_is i));
      }

  pub made_more : (basis : T → G) (lock : CoreLock T E G) (p q : Pass T E G) (xs more : List E) → IsPassOf maker basis lock p → view_of q ≡ with_none (with_entries maker xs (view_of p))
      → All (IsRecord maker (seen p)) (view_of p).records → xs ≡ seen p ++ more → (added : List E) → xs ≡ seen p ++ added → All (λ e. maker e ≡ number p) added
      → made q ≡ made p ++ more
  made_more basis lock p q xs more own view records grows added grows' mine =
      ap (λ (v : View E G). own_made v.records) view
      ∙ grown_by maker (seen p) (view_of p).records xs more own.alone.0 own.alone.1 records grows added grows'
      (subst (λ (n : ℕ). All (λ e. maker e ≡ n) added) (sym own.numbered ∙ ap own_number own.alone.1) mine)
