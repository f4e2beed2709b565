-- A new table meets the rule.
use Rattle.std.proofs.Common.{◌≡◌, ℕ, zero, suc, ◌<◌, ◌≤◌, List, [], ◌∷◌, length, map, Some, sym, refl, ap, subst, inl, arith}
use Rattle.std.specs.Prelude.{All}
use Rattle.std.proofs.lemmas.List.Elements.{All-nil, All-cons}
use mathlib.Core.Option.{some, some-injective, some-ne-none}
use lib.ListN.{get_elem?}
use Rattle.atomic_table.specs.Table.{opening}
use Rattle.core_lock.specs.declared.view.View.{View}
use Rattle.core_lock.specs.Counts.{times, numbers_from}
use Rattle.core_lock.specs.Rule.{IsRecord, Fits, Kept, fresh_records, opening_view}
use Rattle.core_lock.proofs.Histories.{prefix_none}

numbers-fresh : (E : Type 0) (first n : ℕ) → map (λ r. r.number) (fresh_records {E = E} first n) ≡ numbers_from first n
numbers-fresh E first zero = refl
numbers-fresh E first (suc n) = ap (λ ks. first ∷ ks) (numbers-fresh E (suc first) n)

length-fresh : (E : Type 0) (first n : ℕ) → length (fresh_records {E = E} first n) ≡ n
length-fresh E first zero = refl
length-fresh E first (suc n) = ap suc (length-fresh E (suc first) n)

records-fresh : {E : Type 0} (maker : E → ℕ) (first n : ℕ) → All (IsRecord maker []) (fresh_records first n)
records-fresh maker first zero = All-nil (IsRecord maker [])
records-fresh maker first (suc n) = All-cons (IsRecord maker []) _ _ (prefix_none [], refl) (records-fresh maker (suc first) n)

module _ {T E G : Type 0} (entries : T → List E) (maker : E → ℕ) (basis : T → G) where
  pub opens : (count : ℕ) (x : T) → entries x ≡ [] → 0 < count → count ≤ 64 → Kept entries maker basis count (basis x) (opening (0 ∷ 0 ∷ 0 ∷ []) (Some x ∷ []) (opening_view count (basis x)))
  opens count x empty some_number few = record {
    history = [];
    wide = refl;
    counted = refl;
    small = omega arith;
    next = refl;
    tickets = λ y. refl;
    one_turn = omega arith;
    slot = ((λ _. (x, refl, empty, refl)), (λ e. absurd (omega arith)));
    numbers = λ n. let h = ap (times n) (numbers-fresh E 0 count) in omega arith;
    whole = let h = length-fresh E 0 count in omega arith;
    few = few;
    makers = All-nil (λ e. maker e < count);
    each = first_view;
  }
    where
      first_view : (by : ℕ) (v : View E G) → get_elem? (opening_view count (basis x) ∷ []) by ≡ some v → Fits maker [] 0 count (basis x) v
      first_view zero v e = subst (Fits maker [] 0 count (basis x)) (some-injective _ _ e) (record {
        seen = prefix_none [];
        records = records-fresh maker 0 count;
        served = tt;
        alive = inl (record { count_is = refl; basis_is = refl; recorded = let h = length-fresh E 0 count in omega arith });
      })
      first_view (suc by) v e = absurd (some-ne-none v (sym e))
