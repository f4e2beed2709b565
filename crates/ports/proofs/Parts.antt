-- The front of a list after a step further into it.
use Rattle.std.proofs.Common.{◌≡◌, ℕ, ◌+◌, ◌-◌, ◌≤◌, List, ◌++◌, length, take, drop, sym, ap, ◌∙◌, subst, length-take-le}
use Rattle.std.proofs.lemmas.List.{take-append-le, take_rest}
use Rattle.std.proofs.Math.Seq.{take-add, take-append-add}

-- the next `n` of a list that is read from `at` on
pub take-next : (xs : List ℕ) (at n : ℕ) → take (at + n) xs ≡ take at xs ++ take n (take (length xs - at) (drop at xs))
take-next xs at n = take-add at n xs ∙ ap (λ l. take at xs ++ take n l) (sym (take_rest xs at))

-- the next `n` of a list that is written from `at` on
pub take-written : (xs ys post : List ℕ) (at n : ℕ) → at ≤ length xs → n ≤ length ys
    → take (at + n) (take at xs ++ (ys ++ post)) ≡ take at xs ++ take n ys
take-written xs ys post at n in_xs in_ys =
    let seam : take (length (take at xs) + n) (take at xs ++ (ys ++ post)) ≡ take at xs ++ take n ys =
    take-append-add (take at xs) (ys ++ post) n ∙ ap (λ l. take at xs ++ l) (take-append-le n ys post in_ys) in
    subst (λ m. take (m + n) (take at xs ++ (ys ++ post)) ≡ take at xs ++ take n ys) (length-take-le at xs in_xs) seam
