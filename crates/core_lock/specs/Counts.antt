-- Sums over lists, and how often a number stands in a list.
use Rattle.std.specs.Prelude.{ℕ, zero, suc, ◌+◌, ◌%◌, ◌==◌, List, [], ◌∷◌, if◌then◌else◌}

abbrev pub total : {A : Type 0} → (A → ℕ) → List A → ℕ
total f [] = 0
total f (x ∷ xs) = f x + total f xs

-- 1 where the two numbers are the same
abbrev pub same : ℕ → ℕ → ℕ
same x y = if x == y then 1 else 0

-- how often x stands in the list
abbrev pub times : ℕ → List ℕ → ℕ
times x [] = 0
times x (y ∷ ys) = same y x + times x ys

-- so many numbers, from the first on
abbrev pub numbers_from : ℕ → ℕ → List ℕ
numbers_from first zero = []
numbers_from first (suc n) = first ∷ numbers_from (suc first) n

-- so many tickets from the one that is served on, the last first. After 2^64 - 1 comes 0
abbrev pub tickets_from : ℕ → ℕ → List ℕ
tickets_from serving zero = []
tickets_from serving (suc n) = (serving + n) % 18446744073709551616 ∷ tickets_from serving n

-- the entries that were made under a number, in order
abbrev pub made_by : {E : Type 0} → (E → ℕ) → ℕ → List E → List E
made_by maker n [] = []
made_by maker n (e ∷ es) = if maker e == n then e ∷ made_by maker n es else made_by maker n es
