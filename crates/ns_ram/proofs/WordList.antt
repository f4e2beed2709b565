-- The words that bytes make: those of a front part are a front part of those of all.
use Rattle.std.proofs.Common.{◌≡◌, ℕ, zero, suc, ◌+◌, ◌*◌, ◌/◌, ◌≤◌, Bool, true, false, List, [], ◌∷◌, ◌++◌, length, take, drop, Option, Some, None, refl, sym, ◌∙◌, ap, arith, cond}
use Rattle.std.proofs.lemmas.List.{take-take, drop-take, length-take-le}
use Rattle.std.specs.Option.{option_map}
use Rattle.std.specs.Int.{from_le_bytes, w64}
use Rattle.ns_ram.specs.Reader.{words_of, words_in, up_to_failing}

pub length-words_of : (n : ℕ) (bytes : List ℕ) → length (words_of n bytes) ≡ n
length-words_of zero bytes = refl
length-words_of (suc n) bytes = ap (λ k. suc k) (length-words_of n (drop 8 bytes))

pub take-words_of : (k n : ℕ) (bytes : List ℕ) → k ≤ n → take k (words_of n bytes) ≡ words_of k bytes
take-words_of zero n bytes h = refl
take-words_of (suc k) zero bytes h = absurd (omega arith)
take-words_of (suc k) (suc n) bytes h =
    ap (λ ws. from_le_bytes w64 (take 8 bytes) ∷ ws) (take-words_of k n (drop 8 bytes) (omega arith))

-- the words need no more bytes than they have
pub words_of-take : (k : ℕ) (bytes : List ℕ) → words_of k (take (8 * k) bytes) ≡ words_of k bytes
words_of-take zero bytes = refl
words_of-take (suc k) bytes =
    let eight_more : 8 * suc k ≡ 8 + 8 * k = omega arith in
    let first : take 8 (take (8 + 8 * k) bytes) ≡ take 8 bytes = take-take 8 (8 + 8 * k) bytes (omega arith) in
    let others : drop 8 (take (8 + 8 * k) bytes) ≡ take (8 * k) (drop 8 bytes) = drop-take 8 (8 * k) bytes in
    rw (eight_more, first, others) (ap (λ ws. from_le_bytes w64 (take 8 bytes) ∷ ws) (words_of-take k (drop 8 bytes)))

pub words_in-take : (k : ℕ) (bytes : List ℕ) → 8 * k ≤ length bytes →
    words_in (take (8 * k) bytes) ≡ take k (words_in bytes)
words_in-take k bytes h =
    let count : length (take (8 * k) bytes) / 8 ≡ k = rw (length-take-le (8 * k) bytes h) (omega arith) in
    rw count (words_of-take k bytes ∙ sym (take-words_of k (length bytes / 8) bytes (omega arith)))

-- the first word: it passes and others follow, or it fails
data First (test : ℕ → Bool) (w : ℕ) (ws : List ℕ) (most : ℕ) (got : List ℕ) : Type 0 where
  passes : (more : List ℕ) → test w ≡ true → up_to_failing test ws most ≡ Some more → got ≡ w ∷ more →
      First test w ws most got
  fails : test w ≡ false → got ≡ w ∷ [] → First test w ws most got

first : (test : ℕ → Bool) (w : ℕ) (ws : List ℕ) (most : ℕ) (got : List ℕ) →
    up_to_failing test (w ∷ ws) (suc most) ≡ Some got → First test w ws most got
first test w ws most got e =
    let Goal : Bool → Option (List ℕ) → Type 0 = λ b others. b ≡ test w → others ≡ up_to_failing test ws most → cond b (option_map (λ more. w ∷ more) others) (Some (w ∷ [])) ≡ Some got → First test w ws most got in
    let by_cases : (b : Bool) (others : Option (List ℕ)) → Goal b others =
    elim [ true ↦ elim [ None ↦ λ p q r. absurd (cc) | Some more ↦ λ p q r. passes more (sym p) (sym q) (cc) ] | false ↦ λ others p q r. fails (sym p) (cc) ] in
    by_cases (test w) (up_to_failing test ws most) refl refl e

-- what is taken stands at the front
pub up_to_failing-front : (test : ℕ → Bool) (ws : List ℕ) (most : ℕ) (got : List ℕ) →
    up_to_failing test ws most ≡ Some got → (rest : List ℕ) × (ws ≡ got ++ rest)
up_to_failing-front test [] zero got e = ([], cc)
up_to_failing-front test [] (suc n) got e = absurd (cc)
up_to_failing-front test (w ∷ ws) zero got e = (w ∷ ws, cc)
up_to_failing-front test (w ∷ ws) (suc n) got e =
    elim (first test w ws n got e) [
      | passes more p t q ↦ let h = up_to_failing-front test ws n more t in (h.0, cc)
      | fails p q ↦ (ws, cc)
    ]

-- it is as good as all
pub up_to_failing-itself : (test : ℕ → Bool) (ws : List ℕ) (most : ℕ) (got : List ℕ) →
    up_to_failing test ws most ≡ Some got → up_to_failing test got most ≡ Some got
up_to_failing-itself test [] zero got e = let p : got ≡ [] = cc in rw p refl
up_to_failing-itself test [] (suc n) got e = absurd (cc)
up_to_failing-itself test (w ∷ ws) zero got e = let p : got ≡ [] = cc in rw p refl
up_to_failing-itself test (w ∷ ws) (suc n) got e =
    elim (first test w ws n got e) [
      | passes more p t q ↦ rw (q, p, up_to_failing-itself test ws n more t) refl
      | fails p q ↦ rw (q, p) refl
    ]

-- what stands behind it changes nothing
pub up_to_failing-append : (test : ℕ → Bool) (ws : List ℕ) (most : ℕ) (got rest : List ℕ) →
    up_to_failing test ws most ≡ Some got → up_to_failing test (ws ++ rest) most ≡ Some got
up_to_failing-append test [] zero got [] e = e
up_to_failing-append test [] zero got (w ∷ rest) e = e
up_to_failing-append test [] (suc n) got rest e = absurd (cc)
up_to_failing-append test (w ∷ ws) zero got rest e = e
up_to_failing-append test (w ∷ ws) (suc n) got rest e =
    elim (first test w ws n got e) [
      | passes more p t q ↦ rw (q, p, up_to_failing-append test ws n more rest t) refl
      | fails p q ↦ rw (q, p) refl
    ]
