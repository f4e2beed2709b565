-- The first place at which a test passes.
use Rattle.std.proofs.Common.{◌≡◌, ℕ, ◌<◌, Bool, true, false, List, length, get_or, map, Some, None, refl, arith}
use Rattle.std.specs.List.{range_with_len, position, position_or_len}
use Rattle.std.proofs.lemmas.Bool.{le-ltb, lt-ltb}
use Rattle.std.proofs.lemmas.List.FromFn.{length-map-range_with_len, get_or-map-range_with_len}
use Rattle.std.proofs.lemmas.List.Sums.{position_or_len_is}

-- the place that passes, after others that do not
pub position-first : {X : Type 0} (p : X → Bool) (xs : List X) (i : ℕ) (d : X) → i < length xs → ((k : ℕ) → k < i → p (get_or xs k d) ≡ false) → p (get_or xs i d) ≡ true → position p xs ≡ Some i
position-first p xs i d lt before here =
    let e : position_or_len p xs ≡ i = position_or_len_is p xs i d (omega arith) before (λ _. here) in
    rw (e, lt-ltb i (length xs) lt) refl

-- no place passes
pub position-none : {X : Type 0} (p : X → Bool) (xs : List X) (d : X) → ((k : ℕ) → k < length xs → p (get_or xs k d) ≡ false) → position p xs ≡ None
position-none p xs d all =
    let e : position_or_len p xs ≡ length xs = position_or_len_is p xs (length xs) d (omega arith) all (λ lt. absurd (omega arith)) in
    rw (e, le-ltb (length xs) (length xs) (omega arith)) refl

-- the same in a list that is made from a function of the place
pub position-made : {X : Type 0} (p : X → Bool) (f : ℕ → X) (n i : ℕ) → i < n → ((k : ℕ) → k < i → p (f k) ≡ false) → p (f i) ≡ true → position p (map f (range_with_len 0 n)) ≡ Some i
position-made p f n i lt before here =
    position-first p (map f (range_with_len 0 n)) i (f 0) (rw (length-map-range_with_len f 0 n) lt)
    (λ k below. rw (get_or-map-range_with_len f 0 n k k (f 0) (omega arith) (omega arith)) (before k below))
    (rw (get_or-map-range_with_len f 0 n i i (f 0) lt (omega arith)) here)

pub position-made_none : {X : Type 0} (p : X → Bool) (f : ℕ → X) (n : ℕ) → ((k : ℕ) → k < n → p (f k) ≡ false) → position p (map f (range_with_len 0 n)) ≡ None
position-made_none p f n all =
    position-none p (map f (range_with_len 0 n)) (f 0)
    (λ k below. let lt : k < n = rw (length-map-range_with_len f 0 n) at below in rw (get_or-map-range_with_len f 0 n k k (f 0) lt (omega arith)) (all k lt))
