-- Entries of a map after a change that is undone, or that changes nothing.
use Rattle.std.proofs.Common.{◌≡◌, ℕ, Bool, true, false, cond, List, [], ◌∷◌, Option, Some, None, refl, sym, ap}
use Rattle.std.specs.Prelude.{is_some}
use Rattle.std.specs.BTreeMap.{insert_entry, is_at}
use Rattle.std.specs.Cmp.{IsTotalOrder}
use Rattle.std.specs.Cmp.Lexicographic.{nat_list_cmp_total}
use Rattle.supplicant.specs.Files.{Files, bytes_of, name_cmp, with_empty, without_file}
use Rattle.std.specs.Map.{lookup, remove_entry, set_value}
use Rattle.std.specs.Ordering.{match_ordering, ordering_reverse}
use Rattle.std.specs.declared.cmp.Ordering.{Ordering}
use Rattle.std.specs.declared.cmp.Ordering.TheVariants.{Less, Equal, Greater}

same : {A : Type 0} {x y : A} → Some x ≡ Some y → x ≡ y
same e = cc

-- ---- the value that is there

set-step : {K X : Type 0} (b : Bool) (e : K × X) (es set : List (K × X)) (found : Option X) (w : X) → cond b (Some e.1) found ≡ Some w →
    (found ≡ Some w → set ≡ es) → cond b ((e.0, w) ∷ es) (e ∷ set) ≡ e ∷ es
set-step true e es set found w there others = ap (λ x. (e.0, x) ∷ es) (sym (same there))
set-step false e es set found w there others = ap (λ rest. e ∷ rest) (others there)

pub set_value_itself : {K X : Type 0} (test : K → Bool) (es : List (K × X)) (w : X) → lookup test es ≡ Some w → set_value test es w ≡ es
set_value_itself test [] w there = refl
set_value_itself test (e ∷ es) w there = set-step (test e.0) e es (set_value test es w) (lookup test es) w there (set_value_itself test es w)

-- ---- a key that was absent, and is removed again

self_equal : (order : Ordering) → order ≡ ordering_reverse order → order ≡ Equal
self_equal Less e = absurd cc
self_equal Equal e = refl
self_equal Greater e = absurd cc

itself : {K : Type 0} {cmp : K → K → Ordering} → IsTotalOrder cmp → (k : K) → cmp k k ≡ Equal
itself {K} {cmp} total k = self_equal (cmp k k) (total.antisymm k k)

module _ {K X : Type 0} (cmp : K → K → Ordering) (total : IsTotalOrder cmp) (k : K) (v : X) where
  remove-step : (e : K × X) (es : List (K × X)) (order : Ordering) → cmp k e.0 ≡ order → lookup (is_at (cmp k)) (e ∷ es) ≡ None →
      (lookup (is_at (cmp k)) es ≡ None → remove_entry (is_at (cmp k)) (insert_entry cmp es k v) ≡ es) →
      remove_entry (is_at (cmp k)) (match_ordering order ((k, v) ∷ e ∷ es) ((e.0, v) ∷ es) (e ∷ insert_entry cmp es k v)) ≡ e ∷ es
  remove-step e es Less is none others = rw (itself total k) refl
  remove-step e es Equal is none others = let some = rw is at none in absurd cc
  remove-step e es Greater is none others = let absent = rw is at none in rw is (ap (λ rest. e ∷ rest) (others absent))

  pub removed_again : (es : List (K × X)) → lookup (is_at (cmp k)) es ≡ None →
      remove_entry (is_at (cmp k)) (insert_entry cmp es k v) ≡ es
  removed_again [] none = rw (itself total k) refl
  removed_again (e ∷ es) none = remove-step e es (cmp k e.0) refl none (removed_again es)

absent : {A : Type 0} (there : Option A) → is_some there ≡ false → there ≡ None
absent None e = refl
absent (Some x) e = absurd cc

-- an empty file that was added
pub file_removed_again : (files : Files) (name : List ℕ) → is_some (bytes_of files name) ≡ false → without_file (with_empty files name) name ≡ files
file_removed_again files name none = removed_again name_cmp nat_list_cmp_total name [] files (absent (bytes_of files name) none)
