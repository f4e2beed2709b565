-- A list that has at each number an object or none, as a map.
use Rattle.std.proofs.Common.{◌≡◌, ◌↔◌, ℕ, zero, suc, ◌+◌, ◌<◌, ◌≤◌, Bool, true, false, cond, not, ◌&&◌, List, [], ◌∷◌, length, get_or, set, Option, Some, None, refl, sym, ap, subst, ◌∙◌, arith}
use Rattle.std.specs.Option.{is_none, option_and_then}
use Rattle.std.specs.List.{All, find, list_all, position, position_from}
use Rattle.std.specs.Ordering.{nat_cmp, eq_by_cmp, is_lt}
use Rattle.std.specs.FinMap.Entries as Entries
use Rattle.std.proofs.lemmas.Bool.Decides.{nat_tests}
use Rattle.std.proofs.lemmas.Iterator.Adapters.{position_from-zero}
use Rattle.std.proofs.lemmas.List.Elements.{All-cons, All-nil}
use Rattle.std.proofs.lemmas.Option.{slice_get-get_or}
use Rattle.base.specs.NumberMap.{get, insert, remove, IsRising, get-insert, get-remove, IsRising-insert, IsRising-remove, same_maps}
use Rattle.tee_storage.specs.declared.handle.Handle.{Handle}
use Rattle.tee_storage.specs.Handles.{AreHandles, lowest_free, numbered_from, object_at}

same : (j k : ℕ) → j ≡ k → eq_by_cmp nat_cmp j k ≡ true
same j k e = grind (arith, nat_tests)

other : (j k : ℕ) → (j ≡ k → ⊥) → eq_by_cmp nat_cmp j k ≡ false
other j k apart = grind (arith, nat_tests)

shifted : (j k : ℕ) → eq_by_cmp nat_cmp j k ≡ eq_by_cmp nat_cmp (suc j) (suc k)
shifted j k = grind (arith, nat_tests)

-- ---- what the map has

get_below : (start k : ℕ) (objects : List (Option Handle)) → k < start → get (numbered_from start objects) k ≡ None
get_below start k [] below = refl
get_below start k (None ∷ objects) below = get_below (start + 1) k objects (omega arith)
get_below start k (Some handle ∷ objects) below =
    rw (other k start (λ e. omega arith)) (get_below (start + 1) k objects (omega arith))

get_numbered : (start n k : ℕ) (objects : List (Option Handle)) → k ≡ start + n → get (numbered_from start objects) k ≡ object_at objects n
get_numbered start n k [] e = refl
get_numbered start zero k (None ∷ objects) e = get_below (start + 1) k objects (omega arith)
get_numbered start zero k (Some handle ∷ objects) e = rw (same k start (omega arith)) refl
get_numbered start (suc n) k (None ∷ objects) e = get_numbered (start + 1) n k objects (omega arith)
get_numbered start (suc n) k (Some handle ∷ objects) e =
    rw (other k start (λ same. omega arith)) (get_numbered (start + 1) n k objects (omega arith))

pub get_is_object_at : (objects : List (Option Handle)) (k : ℕ) → get (numbered_from 0 objects) k ≡ object_at objects k
get_is_object_at objects k = get_numbered 0 k k objects (omega arith)

pub get_is_element : (objects : List (Option Handle)) (k : ℕ) (object : Option Handle) → k < length objects → get (numbered_from 0 objects) k ≡ get_or objects k object
get_is_element objects k object inside =
    get_is_object_at objects k ∙ ap (option_and_then (λ (o : Option Handle). o)) (slice_get-get_or objects k object inside)

-- ---- its numbers rise, and stay below the end of the list

both : (a b : Bool) → a ≡ true → b ≡ true → (a && b) ≡ true
both a b p q = rw (p, q) refl

below_numbered : (k start : ℕ) (objects : List (Option Handle)) → k < start → Entries.below_all nat_cmp k (numbered_from start objects) ≡ true
below_numbered k start [] below = refl
below_numbered k start (None ∷ objects) below = below_numbered k (start + 1) objects (omega arith)
below_numbered k start (Some handle ∷ objects) below =
    both _ _ (less k start below) (below_numbered k (start + 1) objects (omega arith))
  where
    less : (i j : ℕ) → i < j → is_lt (nat_cmp i j) ≡ true
    less i j lt = grind (arith, nat_tests)

rising_numbered : (start : ℕ) (objects : List (Option Handle)) → IsRising (numbered_from start objects)
rising_numbered start [] = refl
rising_numbered start (None ∷ objects) = rising_numbered (start + 1) objects
rising_numbered start (Some handle ∷ objects) =
    both _ _ (below_numbered start (start + 1) objects (omega arith)) (rising_numbered (start + 1) objects)

in_range : (start end : ℕ) (objects : List (Option Handle)) → start + length objects ≤ end → All (λ (entry : ℕ × Handle). entry.0 < end) (numbered_from start objects)
in_range start end [] le = All-nil (λ (entry : ℕ × Handle). entry.0 < end)
in_range start end (None ∷ objects) le = in_range (start + 1) end objects (omega arith)
in_range start end (Some handle ∷ objects) le =
    All-cons (λ (entry : ℕ × Handle). entry.0 < end) (start, handle) (numbered_from (start + 1) objects) (omega arith) (in_range (start + 1) end objects (omega arith))

pub are_handles : (objects : List (Option Handle)) → length objects ≡ 8 → AreHandles (numbered_from 0 objects)
are_handles objects eight = record { rising = rising_numbered 0 objects; in_range = in_range 0 8 objects (omega arith) }

-- ---- it is empty exactly where no place has an object

pub empty_is_all_none : (start : ℕ) (objects : List (Option Handle)) → (list_all is_none objects ≡ true) ↔ (numbered_from start objects ≡ [])
empty_is_all_none start [] = (λ _. refl, λ _. refl)
empty_is_all_none start (None ∷ objects) = empty_is_all_none (start + 1) objects
empty_is_all_none start (Some handle ∷ objects) = (λ all. absurd (cc), λ empty. absurd (cc))

-- ---- a change at a number

object_at-set : (objects : List (Option Handle)) (k n : ℕ) (object : Option Handle) → k < length objects →
    object_at (set objects k object) n ≡ cond (eq_by_cmp nat_cmp n k) object (object_at objects n)
object_at-set [] k n object inside = absurd (omega arith)
object_at-set (o ∷ os) zero zero object inside = refl
object_at-set (o ∷ os) zero (suc n) object inside = rw (other (suc n) 0 (λ e. omega arith)) refl
object_at-set (o ∷ os) (suc k) zero object inside = rw (other 0 (suc k) (λ e. omega arith)) refl
object_at-set (o ∷ os) (suc k) (suc n) object inside =
    object_at-set os k n object (omega arith) ∙ ap (λ b. cond b object (object_at os n)) (shifted n k)

-- what is taken leaves nothing, also behind the end
object_at-taken : (objects : List (Option Handle)) (k n : ℕ) →
    object_at (set objects k None) n ≡ cond (not (eq_by_cmp nat_cmp k n)) (object_at objects n) None
object_at-taken [] k n = nothing (not (eq_by_cmp nat_cmp k n))
  where
    nothing : (b : Bool) → ◌≡◌ {A = Option Handle} None (cond b None None)
    nothing true = refl
    nothing false = refl
object_at-taken (o ∷ os) zero zero = refl
object_at-taken (o ∷ os) zero (suc n) = rw (other 0 (suc n) (λ e. omega arith)) refl
object_at-taken (o ∷ os) (suc k) zero = rw (other (suc k) 0 (λ e. omega arith)) refl
object_at-taken (o ∷ os) (suc k) (suc n) =
    object_at-taken os k n ∙ ap (λ b. cond (not b) (object_at os n) None) (shifted k n)

pub put_is_insert : (objects : List (Option Handle)) (k : ℕ) (handle : Handle) → k < length objects →
    numbered_from 0 (set objects k (Some handle)) ≡ insert (numbered_from 0 objects) k handle
put_is_insert objects k handle inside =
    same_maps _ _ (rising_numbered 0 (set objects k (Some handle))) (IsRising-insert (numbered_from 0 objects) k handle (rising_numbered 0 objects)) (λ n.
    get_is_object_at (set objects k (Some handle)) n
    ∙ object_at-set objects k n (Some handle) inside
    ∙ ap (λ (o : Option Handle). cond (eq_by_cmp nat_cmp n k) (Some handle) o) (sym (get_is_object_at objects n))
    ∙ sym (get-insert (numbered_from 0 objects) k handle n))

pub take_is_remove : (objects : List (Option Handle)) (k : ℕ) → numbered_from 0 (set objects k None) ≡ remove (numbered_from 0 objects) k
take_is_remove objects k =
    same_maps _ _ (rising_numbered 0 (set objects k None)) (IsRising-remove (numbered_from 0 objects) k (rising_numbered 0 objects)) (λ n.
    get_is_object_at (set objects k None) n
    ∙ object_at-taken objects k n
    ∙ ap (λ (o : Option Handle). cond (not (eq_by_cmp nat_cmp k n)) o None) (sym (get_is_object_at objects n))
    ∙ sym (get-remove (numbered_from 0 objects) k n))

-- ---- at a number behind the end

past : (objects : List (Option Handle)) (k : ℕ) → length objects ≤ k → object_at objects k ≡ None
past [] k le = refl
past (o ∷ os) zero le = absurd (omega arith)
past (o ∷ os) (suc k) le = past os k (omega arith)

pub get_past : (objects : List (Option Handle)) (k : ℕ) → length objects ≤ k → get (numbered_from 0 objects) k ≡ None
get_past objects k le = get_is_object_at objects k ∙ past objects k le

-- ---- the lowest free number

-- so many numbers in a row
numbers : ℕ → ℕ → List ℕ
numbers start zero = []
numbers start (suc count) = start ∷ numbers (start + 1) count

first_free : (start : ℕ) (objects : List (Option Handle)) (all : ℕ → Option Handle) → ((n : ℕ) → all (start + n) ≡ object_at objects n) →
    find (λ n. is_none (all n)) (numbers start (length objects)) ≡ position_from is_none start objects
unfolding numbers
first_free start [] all are = refl
first_free start (o ∷ os) all are =
    let here : all start ≡ o = subst (λ n. all n ≡ o) (zeroth start) (are 0) in
    let rest : find (λ n. is_none (all n)) (numbers (start + 1) (length os)) ≡ position_from is_none (start + 1) os =
    first_free (start + 1) os all (λ n. ap all (next start n) ∙ are (suc n)) in
    rw (here, rest) refl
  where
    zeroth : (i : ℕ) → i + 0 ≡ i
    zeroth i = omega arith

    next : (i n : ℕ) → i + 1 + n ≡ i + suc n
    next i n = omega arith

pub lowest_free_is : (objects : List (Option Handle)) → length objects ≡ 8 → lowest_free (numbered_from 0 objects) ≡ position is_none objects
unfolding numbers
lowest_free_is objects eight =
    let found : find (λ n. is_none (get (numbered_from 0 objects) n)) (numbers 0 (length objects)) ≡ position_from is_none 0 objects =
    first_free 0 objects (λ n. get (numbered_from 0 objects) n) (λ n. get_numbered 0 n (0 + n) objects refl) in
    let of_eight : find (λ n. is_none (get (numbered_from 0 objects) n)) (numbers 0 8) ≡ position_from is_none 0 objects =
    subst (λ count. find (λ n. is_none (get (numbered_from 0 objects) n)) (numbers 0 count) ≡ position_from is_none 0 objects) eight found in
    of_eight ∙ sym (position_from-zero is_none objects)
