-- The lowest free slot, and how many are free.
use Rattle.std.proofs.Common.{◌≡◌, ℕ, ◌+◌, ◌≤◌, ◌↔◌, Bool, true, false, not, cond, List, [], ◌∷◌, length, get_or, refl, sym, subst, ◌∙◌, arith, Some, None, IsNone, nat_lt}
use Rattle.std.specs.List.{count_by, position, prefix_len, slice_get}
use Rattle.std.proofs.lemmas.List.Quantifiers.{position-Some}
use Rattle.std.proofs.lemmas.List.Sums.{sum_by-cons}
use Rattle.std.proofs.lemmas.Option.{get_or_from_slice_get, slice_get-get_or}
use Rattle.std.proofs.lemmas.Bool.Decides.{nat_tests}
use Rattle.thread_slots.specs.declared.slot.Slot.{Slot}
use Rattle.thread_slots.specs.declared.slot.Slot.TheVariants.{Free, Active, Suspended}
use Rattle.thread_slots.specs.Slot.{HoldsNoValue, is_free}
use Rattle.thread_slots.specs.Slots.{lowest_free}

is_free-Free : {T : Type 0} (slot : Slot T) → is_free slot ≡ true → slot ≡ Free
is_free-Free Free free = refl
is_free-Free (Active cpu) free = cc
is_free-Free (Suspended client cont) free = cc

pub free_at_lowest : {T : Type 0} (slots : List (Slot T)) (slot : ℕ) → lowest_free slots ≡ Some slot → slice_get slots slot ≡ Some Free
free_at_lowest slots slot lowest =
    let found = position-Some is_free slots slot Free lowest in
    let here = is_free-Free (get_or slots slot Free) found.1 in
    let read = slice_get-get_or slots slot Free found.0 in
    cc

-- what stands at the lowest free slot is free
pub no_value_at_lowest : {T : Type 0} (slots : List (Slot T)) (slot : ℕ) (state : Slot T) → lowest_free slots ≡ Some slot → state ≡ get_or slots slot state → HoldsNoValue state
no_value_at_lowest slots slot state lowest read =
    let free = get_or_from_slice_get slots slot Free state (free_at_lowest slots slot lowest) in
    let is : Free ≡ state = cc in
    subst HoldsNoValue is tt

-- none passes exactly where the first that passes stands past the end
whole_prefix : {X : Type 0} (p : X → Bool) (xs : List X) → count_by p xs ≡ 0 → prefix_len (λ x. not (p x)) xs ≡ length xs
whole_prefix p [] none = refl
whole_prefix p (x ∷ xs) none = whole_with (p x) (whole_prefix p xs) (sym (sum_by-cons (λ y. cond (p y) 1 0) x xs) ∙ none)
  where
    whole_with : (b : Bool) → (count_by p xs ≡ 0 → prefix_len (λ y. not (p y)) xs ≡ length xs) → cond b 1 0 + count_by p xs ≡ 0 → cond (not b) (1 + prefix_len (λ y. not (p y)) xs) 0 ≡ length (x ∷ xs)
    whole_with true rest none = absurd (omega arith)
    whole_with false rest none = grind (arith, rest)

none_in_whole_prefix : {X : Type 0} (p : X → Bool) (xs : List X) → length xs ≤ prefix_len (λ x. not (p x)) xs → count_by p xs ≡ 0
none_in_whole_prefix p [] whole = refl
none_in_whole_prefix p (x ∷ xs) whole = sum_by-cons (λ y. cond (p y) 1 0) x xs ∙ none_with (p x) (none_in_whole_prefix p xs) whole
  where
    none_with : (b : Bool) → (length xs ≤ prefix_len (λ y. not (p y)) xs → count_by p xs ≡ 0) → length (x ∷ xs) ≤ cond (not b) (1 + prefix_len (λ y. not (p y)) xs) 0 → cond b 1 0 + count_by p xs ≡ 0
    none_with true rest whole = absurd (omega arith)
    none_with false rest whole = grind (arith, rest)

-- what `position` finds, by the place of the first that passes
found_below : (at len : ℕ) → IsNone (cond (nat_lt at len) (Some at) None) → len ≤ at
found_below at len none = grind (arith, nat_tests)

nothing_past : (at len : ℕ) → len ≤ at → IsNone (cond (nat_lt at len) (Some at) None)
nothing_past at len past = grind (arith, nat_tests)

-- none passes exactly where `position` finds none
pub none_found : {X : Type 0} (p : X → Bool) (xs : List X) → IsNone (position p xs) ↔ (count_by p xs ≡ 0)
none_found p xs = (
  λ none. none_in_whole_prefix p xs (found_below _ (length xs) none),
  λ none. nothing_past _ (length xs) (let whole = whole_prefix p xs none in omega arith),
)

pub none_at_lowest : {T : Type 0} (slots : List (Slot T)) → IsNone (lowest_free slots) ↔ (count_by is_free slots ≡ 0)
none_at_lowest slots = none_found is_free slots

-- what holds where a slot is entered
pub ruleset at_lowest = (free_at_lowest, no_value_at_lowest, none_at_lowest)
