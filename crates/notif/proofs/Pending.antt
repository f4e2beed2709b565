-- Values that pend stay apart and in range when another comes, for which there is room.
use Rattle.std.proofs.Common.{◌≡◌, ◌≢◌, ◌∙◌, ℕ, ◌+◌, ◌<◌, ◌≤◌, Bool, true, false, ◌||◌, ◌==◌, List, [], ◌∷◌, ◌++◌, length, get_or, refl, sym, arith, eq-eqb, length-append, subst}
use Rattle.std.specs.List.{All, AllPairs, list_any}
use Rattle.std.proofs.lemmas.Bool.Decides.{Decides-eqb, nat_tests}
use Rattle.std.proofs.lemmas.List.Elements.{All-head, All-push, All-tail}
use Rattle.std.proofs.lemmas.List.Folds.{list_any_at}
use Rattle.std.proofs.lemmas.List.Quantifiers.{all_pairs_push}
use Rattle.std.proofs.lemmas.Map.Made.{IsDistinct-from_AllPairs}
use Rattle.std.proofs.lemmas.Map.Steps.{length-le_from_distinct_below}
use Rattle.notif.specs.Desk.{ArePending}

apart_tests : true ≡ false → ⊥
apart_tests e = cc

is_same : (a b : ℕ) → (a == b) ≡ true → a ≡ b
is_same a b test = grind (arith, nat_tests)

pub apart_after_note : (pending : List ℕ) (value : ℕ) → AllPairs (λ earlier later. earlier ≢ later) pending → list_any (λ kept. kept == value) pending ≡ false
    → AllPairs (λ earlier later. earlier ≢ later) (pending ++ value ∷ [])
apart_after_note pending value apart absent =
    all_pairs_push (λ earlier later. earlier ≢ later) pending value apart (λ k d inside same.
    apart_tests (sym (list_any_at (λ kept. kept == value) pending k d inside (eq-eqb (get_or pending k d) value same)) ∙ absent))

pub pending_after_note : (pending : List ℕ) (value : ℕ) → ArePending pending → value < 64 → list_any (λ kept. kept == value) pending ≡ false → ArePending (pending ++ value ∷ [])
pending_after_note pending value are low absent = record {
  apart = apart_after_note pending value are.apart absent;
  in_range = All-push (λ kept. kept < 64) pending value are.in_range low;
}

member_in_range : (pending : List ℕ) → All (λ kept. kept < 64) pending → (q : ℕ) → list_any (λ x. q == x) pending ≡ true → q < 64
member_in_range [] low q member = absurd (apart_tests (sym member))
member_in_range (first ∷ rest) low q member = by_test (q == first) refl (member_in_range rest (All-tail (λ kept. kept < 64) first rest low) q) member
  where
    by_test : (b : Bool) → (q == first) ≡ b → (list_any (λ x. q == x) rest ≡ true → q < 64) → (b || list_any (λ x. q == x) rest) ≡ true → q < 64
    by_test true same later found = subst (λ n. n < 64) (sym (is_same q first same)) (All-head (λ kept. kept < 64) first rest low)
    by_test false other later found = later found

-- values that are apart and below 64 are at most 64
pending_fit : (pending : List ℕ) → ArePending pending → length pending ≤ 64
pending_fit pending are =
    length-le_from_distinct_below pending 64 (IsDistinct-from_AllPairs Decides-eqb pending are.apart) (member_in_range pending are.in_range)

-- so another finds room
pub room_to_note : (pending : List ℕ) (value : ℕ) → ArePending pending → value < 64 → list_any (λ kept. kept == value) pending ≡ false → length pending < 64
room_to_note pending value are low absent =
    one_fewer (length pending) (length (pending ++ value ∷ [])) (pending_fit (pending ++ value ∷ []) (pending_after_note pending value are low absent)) (length-append pending (value ∷ []))
  where
    one_fewer : (a b : ℕ) → b ≤ 64 → b ≡ a + 1 → a < 64
    one_fewer a b fits is = omega arith
