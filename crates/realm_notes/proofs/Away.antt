-- Which processors were turned away, and the numbers at slots.
use Rattle.std.proofs.Common.{◌≡◌, ℕ, zero, suc, ◌<◌, ◌==◌, ◌||◌, Bool, true, false, List, [], ◌∷◌, length, Option, Some, None, refl, ap, sym, ◌∙◌, subst, arith}
use Rattle.std.specs.Prelude.{not, filter, slice_get, slice_set, cond}
use Rattle.std.specs.Option.{option_and_then}
use Rattle.base.specs.NumberMap.{NumberMap, get, insert, remove}
use Rattle.own_model.proofs.InOrder.{by_numbers}
use Rattle.own_model.proofs.Maps.{get-insert-other, get-insert-same, get-remove-other, get-remove-same}
use Rattle.std.proofs.lemmas.Bool.Decides.{nat_tests}
use Rattle.realm_notes.specs.Noted.{is_away}
use Rattle.realm_notes.specs.Numbers.{number_at}
use Rattle.kernel_model.proofs.Parts.{set_other}

pub set_at : {X : Type 0} (xs : List X) (i : ℕ) (x : X) → i < length xs → slice_get (slice_set xs i x) i ≡ Some x
set_at [] i x below = absurd (omega (arith, below))
set_at (first ∷ xs) zero x below = refl
set_at (first ∷ xs) (suc i) x below = set_at xs i x (omega (arith, below))

-- ---- numbers at slots

abbrev pub AreAt : List (Option ℕ) → NumberMap ℕ → Type 0
AreAt numbers kept = (slot : ℕ) → number_at numbers slot ≡ get kept slot

pub put_number : (numbers : List (Option ℕ)) (kept : NumberMap ℕ) (at number : ℕ) → at < length numbers
    → AreAt numbers kept → AreAt (slice_set numbers at (Some number)) (insert kept at number)
put_number numbers kept at number below are slot =
    by_numbers at slot
    (λ same. subst (λ s. number_at (slice_set numbers at (Some number)) s ≡ get (insert kept at number) s) same
    (ap (λ (o : Option (Option ℕ)). option_and_then (λ n. n) o) (set_at numbers at (Some number) below)
    ∙ sym (get-insert-same kept at number)))
    (λ apart. ap (λ (o : Option (Option ℕ)). option_and_then (λ n. n) o) (set_other numbers at slot (Some number) apart)
    ∙ are slot ∙ sym (get-insert-other kept at number slot apart))

pub drop_number : (numbers : List (Option ℕ)) (kept : NumberMap ℕ) (at : ℕ) → at < length numbers
    → AreAt numbers kept → AreAt (slice_set numbers at None) (remove kept at)
drop_number numbers kept at below are slot =
    by_numbers at slot
    (λ same. subst (λ s. number_at (slice_set numbers at None) s ≡ get (remove kept at) s) same
    (ap (λ (o : Option (Option ℕ)). option_and_then (λ n. n) o) (set_at numbers at None below)
    ∙ sym (get-remove-same kept at)))
    (λ apart. ap (λ (o : Option (Option ℕ)). option_and_then (λ n. n) o) (set_other numbers at slot None apart)
    ∙ are slot ∙ sym (get-remove-other kept at slot apart))

-- ---- those that were turned away

itself : (a : ℕ) → (a == a) ≡ true
itself a = grind (arith, nat_tests)

differs : (a b : ℕ) → (a ≡ b → ⊥) → (a == b) ≡ false
differs a b apart = by_test (a == b) refl
  where
    same : (a b : ℕ) → (a == b) ≡ true → a ≡ b
    same a b e = grind (arith, nat_tests)

    by_test : (test : Bool) → (a == b) ≡ test → test ≡ false
    by_test true e = absurd (apart (same a b e))
    by_test false e = refl

-- nothing of it stays behind the test
pub gone : (away : List ℕ) (cpu : ℕ) → is_away (filter (λ one. not (one == cpu)) away) cpu ≡ false
gone [] cpu = refl
gone (one ∷ away) cpu = by_test (one == cpu) refl (gone away cpu)
  where
    by_test : (test : Bool) → (one == cpu) ≡ test → is_away (filter (λ o. not (o == cpu)) away) cpu ≡ false
        → is_away (cond (not test) (one ∷ filter (λ o. not (o == cpu)) away) (filter (λ o. not (o == cpu)) away)) cpu ≡ false
    by_test true is rest = rest
    by_test false is rest = ap (λ b. b || is_away (filter (λ o. not (o == cpu)) away) cpu) is ∙ rest

-- the others stay
pub others_away : (away : List ℕ) (cpu other : ℕ) → (cpu ≡ other → ⊥)
    → is_away (filter (λ one. not (one == cpu)) away) other ≡ is_away away other
others_away [] cpu other apart = refl
others_away (one ∷ away) cpu other apart =
    by_numbers one cpu
    (λ same. ap (λ b. is_away (cond (not b) (one ∷ filter (λ o. not (o == cpu)) away) (filter (λ o. not (o == cpu)) away)) other)
    (ap (λ n. n == cpu) same ∙ itself cpu)
    ∙ others_away away cpu other apart
    ∙ sym (ap (λ b. b || is_away away other) (ap (λ n. n == other) same ∙ differs cpu other apart)))
    (λ differ. ap (λ b. is_away (cond (not b) (one ∷ filter (λ o. not (o == cpu)) away) (filter (λ o. not (o == cpu)) away)) other)
    (differs one cpu differ)
    ∙ ap (λ b. (one == other) || b) (others_away away cpu other apart))
