-- The first answer that isn't 0, as a loop along the drivers finds it.
use Rattle.std.proofs.Common.{◌≡◌, ◌≢◌, ◌∙◌, ℕ, ◌+◌, ◌<◌, Bool, true, false, not, cond, ◌==◌, List, [], ◌∷◌, ◌++◌, append-nil, length, map, take, get_or, refl, sym, ap, arith, Some, None}
use Rattle.std.specs.List.{filter, find}
use Rattle.std.specs.Option.{unwrap_or}
use Rattle.std.proofs.lemmas.Bool.{ne_eqb}
use Rattle.std.proofs.lemmas.Bool.Decides.{nat_tests}
use Rattle.std.proofs.lemmas.List.{map-append}
use Rattle.std.proofs.lemmas.List.Elements.{filter_more}
use Rattle.notif.specs.Desk.{first_answer}

is_zero : (n : ℕ) → (n == 0) ≡ true → 0 ≡ n
is_zero n test = grind (arith, nat_tests)

-- of one answer more
first_answer_more : (answers : List ℕ) (answer : ℕ) → first_answer (answers ++ answer ∷ []) ≡ cond (first_answer answers == 0) answer (first_answer answers)
first_answer_more [] answer = alone (answer == 0) refl
  where
    alone : (b : Bool) → (answer == 0) ≡ b → unwrap_or (cond (not b) (Some answer) None) 0 ≡ answer
    alone true zero = is_zero answer zero
    alone false other = refl
first_answer_more (first ∷ answers) answer = by_test (first == 0) refl (first_answer_more answers answer)
  where
    by_test : (b : Bool) → (first == 0) ≡ b → first_answer (answers ++ answer ∷ []) ≡ cond (first_answer answers == 0) answer (first_answer answers)
        → unwrap_or (cond (not b) (Some first) (find (λ a. not (a == 0)) (answers ++ answer ∷ []))) 0
        ≡ cond (unwrap_or (cond (not b) (Some first) (find (λ a. not (a == 0)) answers)) 0 == 0) answer (unwrap_or (cond (not b) (Some first) (find (λ a. not (a == 0)) answers)) 0)
    by_test true zero later = later
    by_test false other later = sym (ap (λ t. cond t answer first) other)

-- those that pass the test are asked in their order
module _ {X : Type 0} (test : X → Bool) (answer_of : X → ℕ) where
  abbrev first_among : List X → ℕ
  first_among xs = first_answer (map answer_of (filter test xs))

  step : (xs : List X) (i : ℕ) (d : X) (b : Bool) → i < length xs → test (get_or xs i d) ≡ b
      → first_among (take (i + 1) xs) ≡ cond b (cond (first_among (take i xs) == 0) (answer_of (get_or xs i d)) (first_among (take i xs))) (first_among (take i xs))
  step xs i d b inside passes =
      ap (λ kept. first_answer (map answer_of kept)) (filter_more test xs i d inside)
      ∙ ap (λ t. first_answer (map answer_of (filter test (take i xs) ++ cond t (get_or xs i d ∷ []) []))) passes
      ∙ by_test b
    where
      by_test : (b : Bool) → first_answer (map answer_of (filter test (take i xs) ++ cond b (get_or xs i d ∷ []) []))
          ≡ cond b (cond (first_among (take i xs) == 0) (answer_of (get_or xs i d)) (first_among (take i xs))) (first_among (take i xs))
      by_test true =
          ap first_answer (map-append answer_of (filter test (take i xs)) (get_or xs i d ∷ []))
          ∙ first_answer_more (map answer_of (filter test (take i xs))) (answer_of (get_or xs i d))
      by_test false = ap (λ kept. first_answer (map answer_of kept)) (append-nil (filter test (take i xs)))

  -- the next is asked, and all before answered 0
  pub asked_first : (xs : List X) (i : ℕ) (d : X) (first : ℕ) → i < length xs → test (get_or xs i d) ≡ true → first ≡ first_among (take i xs) → first ≡ 0
      → answer_of (get_or xs i d) ≡ first_among (take (i + 1) xs)
  asked_first xs i d first inside passes so_far none =
      sym (step xs i d true inside passes
      ∙ ap (λ n. cond (n == 0) (answer_of (get_or xs i d)) n) (sym so_far ∙ none))

  -- the next is asked, and one before answered otherwise
  pub asked_later : (xs : List X) (i : ℕ) (d : X) (first : ℕ) → i < length xs → test (get_or xs i d) ≡ true → first ≡ first_among (take i xs) → first ≢ 0
      → first ≡ first_among (take (i + 1) xs)
  asked_later xs i d first inside passes so_far some =
      sym (step xs i d true inside passes
      ∙ ap (λ n. cond (n == 0) (answer_of (get_or xs i d)) n) (sym so_far)
      ∙ ap (λ b. cond b (answer_of (get_or xs i d)) first) (ne_eqb first 0 some))

  -- the next isn't asked
  pub not_asked : (xs : List X) (i : ℕ) (d : X) (first : ℕ) → i < length xs → test (get_or xs i d) ≡ false → first ≡ first_among (take i xs)
      → first ≡ first_among (take (i + 1) xs)
  not_asked xs i d first inside fails so_far = so_far ∙ sym (step xs i d false inside fails)
