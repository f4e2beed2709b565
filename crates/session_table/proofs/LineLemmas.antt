-- What a line of waiting calls keeps to, and that it has room for each call that may join.
use Rattle.std.proofs.Common.{◌≡◌, ◌≢◌, ℕ, suc, ◌+◌, ◌<◌, ◌≤◌, Bool, true, false, not, ◌||◌, List, [], ◌∷◌, ◌++◌, ◌==◌, length, get_or, map, refl, sym, ap, subst, ◌∙◌, arith, length-append}
use Rattle.std.specs.List.{All, IsDistinct, list_any}
use Rattle.std.proofs.lemmas.Bool.Decides.{nat_tests}
use Rattle.std.proofs.lemmas.List.{get_or-map}
use Rattle.std.proofs.lemmas.List.Elements.{All-filter, All-head, All-push, All-tail}
use Rattle.std.proofs.lemmas.List.Folds.{list_any_at}
use Rattle.std.proofs.lemmas.List.Kept.{AllPairs-filter}
use Rattle.std.proofs.lemmas.List.Quantifiers.{all_pairs_push}
use Rattle.std.proofs.lemmas.Map.Keys.{IsDistinct-from_apart}
use Rattle.std.proofs.lemmas.Map.Steps.{length-le_from_distinct_below}
use Rattle.session_table.specs.declared.waiters.Waiter.{Waiter}
use Rattle.session_table.specs.Waiters.{IsLine, waits, without}

abbrev Apart : Waiter → Waiter → Type 0
Apart earlier later = earlier.slot ≢ later.slot

abbrev InRange : Waiter → Type 0
InRange waiter = waiter.slot < 16

abbrev slots_of : List Waiter → List ℕ
slots_of waiters = map (λ (waiter : Waiter). waiter.slot) waiters

pub line_after_join : (waiters : List Waiter) (waiter : Waiter) → IsLine waiters → waiter.slot < 16 → waits waiters waiter.slot ≡ false → IsLine (waiters ++ waiter ∷ [])
line_after_join waiters waiter line low absent = record {
  apart = all_pairs_push Apart waiters waiter line.apart (λ k d inside same.
      let taken = list_any_at (λ (w : Waiter). w.slot == waiter.slot) waiters k d inside (is_same _ waiter.slot same) in
      apart_tests (sym taken ∙ absent));
  in_range = All-push InRange waiters waiter line.in_range low;
}
  where
    is_same : (a b : ℕ) → a ≡ b → (a == b) ≡ true
    is_same a b same = grind (arith, nat_tests)

    apart_tests : true ≡ false → ⊥
    apart_tests e = cc

pub line_after_leave : (waiters : List Waiter) (slot : ℕ) → IsLine waiters → IsLine (without waiters slot)
line_after_leave waiters slot line = record {
  apart = AllPairs-filter Apart (λ (w : Waiter). not (w.slot == slot)) waiters line.apart;
  in_range = All-filter (λ (w : Waiter). not (w.slot == slot)) InRange waiters line.in_range;
}

-- each number that is a slot of the line is in range
slot_in_range : (waiters : List Waiter) → All InRange waiters → (q : ℕ) → list_any (λ x. q == x) (slots_of waiters) ≡ true → q < 16
slot_in_range [] low q member = absurd (apart_tests member)
  where
    apart_tests : false ≡ true → ⊥
    apart_tests e = cc
slot_in_range (w ∷ ws) low q member =
    by_test (q == w.slot) refl (slot_in_range ws (All-tail InRange w ws low) q) member
  where
    is_same : (a b : ℕ) → (a == b) ≡ true → b < 16 → a < 16
    is_same a b test below = grind (arith, nat_tests)

    by_test : (b : Bool) → (q == w.slot) ≡ b → (list_any (λ x. q == x) (slots_of ws) ≡ true → q < 16) → (b || list_any (λ x. q == x) (slots_of ws)) ≡ true → q < 16
    by_test true same later found = is_same q w.slot same (All-head InRange w ws low)
    by_test false other later found = later found

-- slots that are apart and below 16 are at most 16
pub line_fits : (waiters : List Waiter) → IsLine waiters → length waiters ≤ 16
line_fits waiters line =
    let distinct : IsDistinct (λ x y. x == y) (slots_of waiters) =
    IsDistinct-from_apart (λ x y. x == y) (slots_of waiters) (λ i j d before inside.
    let within : j < length waiters = subst (λ n. j < n) (length-map waiters) inside in
    let first : i < length waiters = omega arith in
    other _ _ (subst (λ n. n ≢ get_or (slots_of waiters) j d) (sym (get_or-map (λ (w : Waiter). w.slot) waiters i nobody d first))
    (subst (λ n. (get_or waiters i nobody).slot ≢ n) (sym (get_or-map (λ (w : Waiter). w.slot) waiters j nobody d within)) (line.apart i j nobody before within)))) in
    subst (λ n. n ≤ 16) (length-map waiters) (length-le_from_distinct_below (slots_of waiters) 16 distinct (slot_in_range waiters line.in_range))
  where
    nobody : Waiter
    nobody = record { instance = 0; uuid = []; slot = 0 }

    other : (a b : ℕ) → a ≢ b → (a == b) ≡ false
    other a b apart = grind (arith, nat_tests)

    length-map : (ws : List Waiter) → length (slots_of ws) ≡ length ws
    length-map [] = refl
    length-map (w ∷ ws) = ap (λ n. suc n) (length-map ws)

-- a call that may join finds room
pub room_to_join : (waiters : List Waiter) (waiter : Waiter) → IsLine waiters → waiter.slot < 16 → waits waiters waiter.slot ≡ false → length waiters < 16
room_to_join waiters waiter line low absent =
    let fits = line_fits (waiters ++ waiter ∷ []) (line_after_join waiters waiter line low absent) in
    one_fewer (length waiters) (length (waiters ++ waiter ∷ [])) fits (length-append waiters (waiter ∷ []))
  where
    one_fewer : (a b : ℕ) → b ≤ 16 → b ≡ a + 1 → a < 16
    one_fewer a b fits is = omega arith
