-- The passes that the first seat is cut into.
use Rattle.std.proofs.Common.{◌≡◌, ℕ, zero, suc, ◌+◌, ◌<◌, ◌≤◌, List, [], ◌∷◌, ◌++◌, map, Some, sym, refl, ap, ◌∙◌, arith}
use Rattle.std.specs.Prelude.{All}
use Rattle.std.proofs.lemmas.List.{map-append}
use Rattle.std.proofs.lemmas.List.Elements.{All-push, All-weaker}
use Rattle.atomic_table.specs.declared.shared.Seat.{Seat}
use Rattle.core_lock.specs.declared.lock.CoreLock.{CoreLock}
use Rattle.core_lock.specs.declared.pass.Pass.{Pass}
use Rattle.core_lock.specs.declared.view.Stand.TheVariants.{Outside}
use Rattle.core_lock.specs.declared.view.View.{View}
use Rattle.core_lock.specs.Counts.{numbers_from, made_by}
use Rattle.core_lock.specs.Rule.{fresh_records}
use Rattle.core_lock.specs.Steps.{own_number, own_made, split_left, split_right}
use Rattle.core_lock.specs.Passes.{count_of, basis_of, number, seen, made, IsPassOf, IsIdle, AreIdle, AreUnused}

-- a view with so many fresh records, from the first on
abbrev pub dealt : {E G : Type 0} → ℕ → G → ℕ → ℕ → View E G
dealt count base first n = record { count = count; basis = Some base; seen = []; records = fresh_records first n; stand = Outside }

pub numbers_more : (first n : ℕ) → numbers_from first n ++ (first + n) ∷ [] ≡ numbers_from first (suc n)
numbers_more first zero = ap (λ (k : ℕ). k ∷ []) (let e : first + 0 ≡ first = omega arith in e)
numbers_more first (suc n) = ap (λ ks. first ∷ ks) ((ap (λ (k : ℕ). numbers_from (suc first) n ++ k ∷ []) (let e : first + suc n ≡ suc first + n = omega arith in e)) ∙ numbers_more (suc first) n)

module _ {T E G : Type 0} (maker : E → ℕ) (basis : T → G) (lock : CoreLock T E G) where
  -- a pass that was not used yet
  abbrev pub IsNew : Pass T E G → Type 0
  IsNew p = IsPassOf maker basis lock p × IsIdle p × (seen p ≡ []) × (made p ≡ [])

  pub is_new : (p : Pass T E G) → p.number < count_of lock → p.seat.table_id ≡ lock.table.shared.table_id → p.seat.me ≡ (dealt (count_of lock) (basis_of basis lock) p.number 1, []) → IsNew p
  is_new p below table_is is =
      let view = ap (λ h. h.0) is in
      let records = ap (λ (v : View E G). v.records) view in (
        record {
          table_is = table_is;
          count_is = ap (λ (v : View E G). v.count) view;
          basis_is = ap (λ (v : View E G). v.basis) view;
          alone = (record { number = p.number; made = []; seen = [] }, records, refl);
          numbered = ap own_number records;
          below = below;
          own_entries = ap own_made records ∙ ap (made_by maker p.number) (sym (ap (λ (v : View E G). v.seen) view));
        },
        (ap (λ (v : View E G). v.stand) view, ap (λ h. h.1) is),
        ap (λ (v : View E G). v.seen) view,
        ap own_made records,
      )

  -- the passes that were dealt so far, and the seat with the records that are left
  pub record IsDealt (k : ℕ) (rest : Seat (Rattle.std.specs.Prelude.Option T) (View E G)) (passes : List (Pass T E G)) : Type 0 where
    pub more : (n : ℕ) × (k + suc n ≡ count_of lock) × (rest.me ≡ (dealt (count_of lock) (basis_of basis lock) k (suc n), []))
    pub table_is : rest.table_id ≡ lock.table.shared.table_id
    pub numbers : map number passes ≡ numbers_from 0 k
    pub fresh : All (IsNew) passes

  deals_one : (k : ℕ) (passes : List (Pass T E G)) (p : Pass T E G) → map number passes ≡ numbers_from 0 k → All (IsNew) passes → p.number ≡ k → IsNew p
      → (map number (passes ++ p ∷ []) ≡ numbers_from 0 (suc k)) × All (IsNew) (passes ++ p ∷ [])
  deals_one k passes p numbers fresh is new_one =
      let more : numbers_from 0 k ++ k ∷ [] ≡ numbers_from 0 (suc k) = ap (λ (j : ℕ). numbers_from 0 k ++ j ∷ []) (let e : k ≡ 0 + k = omega arith in e) ∙ numbers_more 0 k in (
        map-append number passes (p ∷ []) ∙ ((λ i. numbers i ++ is i ∷ []) ∙ more),
        All-push (IsNew) passes p fresh new_one,
      )

  one_less : (k n count : ℕ) → k + suc n ≡ count → k + 1 < count → (m : ℕ) × (n ≡ suc m)
  one_less k zero count e h = absurd (omega arith)
  one_less k (suc m) count e h = (m, refl)

  none_left : (k n count : ℕ) → k + suc n ≡ count → count ≤ k + 1 → n ≡ 0
  none_left k n count e h = omega arith

  -- a seat is cut: its first record goes with the pass of its number
  pub deals : (k k' : ℕ) (rest others : Seat (Rattle.std.specs.Prelude.Option T) (View E G)) (passes : List (Pass T E G)) (p : Pass T E G) → k' ≡ suc k → IsDealt k rest passes → k + 1 < count_of lock
      → p.seat.table_id ≡ rest.table_id → others.table_id ≡ rest.table_id → p.seat.me ≡ (split_left rest.me.0, rest.me.1) → others.me ≡ (split_right rest.me.0, []) → p.number ≡ k
      → IsDealt k' others (passes ++ p ∷ [])
  deals k k' rest others passes p next d room same_table same_table' left right is =
      let n = one_less k d.more.0 (count_of lock) d.more.1 room in
      let view = ap (λ h. h.0) d.more.2 ∙ ap (λ (j : ℕ). dealt (count_of lock) (basis_of basis lock) k (suc j)) n.1 in
      let mine : p.seat.me ≡ (dealt (count_of lock) (basis_of basis lock) p.number 1, []) =
      left ∙ ((λ i. (split_left (view i), ap (λ h. h.1) d.more.2 i)) ∙ ap (λ (j : ℕ). (dealt (count_of lock) (basis_of basis lock) j 1, [])) (sym is)) in
      let both = deals_one k passes p d.numbers d.fresh is (is_new p (let a = is in omega arith) (same_table ∙ d.table_is) mine) in
      record {
        more = (n.0, (let a = d.more.1 in let b = n.1 in omega arith), right ∙ ((λ i. (split_right (view i), [])) ∙ ap (λ (j : ℕ). (dealt (count_of lock) (basis_of basis lock) j (suc n.0), [])) (sym next)));
        table_is = same_table' ∙ d.table_is;
        numbers = both.0 ∙ ap (numbers_from 0) (sym next);
        fresh = both.1;
      }

  -- the last pass has the last record
  pub deals_last : (k : ℕ) (passes : List (Pass T E G)) (p : Pass T E G) → IsDealt k p.seat passes → count_of lock ≤ k + 1 → p.number ≡ k
      → (map number (passes ++ p ∷ []) ≡ numbers_from 0 (count_of lock)) × All (IsNew) (passes ++ p ∷ [])
  deals_last k passes p d last is =
      let none = none_left k d.more.0 (count_of lock) d.more.1 last in
      let mine : p.seat.me ≡ (dealt (count_of lock) (basis_of basis lock) p.number 1, []) =
      d.more.2 ∙ ((λ i. (dealt (count_of lock) (basis_of basis lock) (sym is i) (suc (none i)), []))) in
      let both = deals_one k passes p d.numbers d.fresh is (is_new p (let a = is in let b = d.more.1 in omega arith) d.table_is mine) in
      (both.0 ∙ ap (numbers_from 0) (let a = d.more.1 in let e : suc k ≡ count_of lock = omega arith in e), both.1)

  pub new_idle : (passes : List (Pass T E G)) → All IsNew passes → AreIdle maker basis lock passes
  new_idle passes all = All-weaker IsNew (λ p. IsPassOf maker basis lock p × IsIdle p) (λ p is. (is.0, is.1)) passes all

  pub new_unused : (passes : List (Pass T E G)) → All IsNew passes → AreUnused passes
  new_unused passes all = All-weaker IsNew (λ p. (seen p ≡ []) × (made p ≡ [])) (λ p is. (is.2, is.3)) passes all
