-- Sums over the views, where one of them changes.
use Rattle.std.proofs.Common.{◌≡◌, ℕ, zero, suc, ◌+◌, ◌<◌, ◌≤◌, ◌≢◌, List, [], ◌∷◌, ◌++◌, length, set, sym, refl, ap, arith, eq-eqb, ne_eqb}
use mathlib.Core.Option.{some, some-injective, some-ne-none}
use mathlib.Core.Logic.{dite}
use native.Mathlib.Decide.{ℕ_discrete}
use lib.ListN.{get_elem?}
use Rattle.core_lock.specs.Counts.{total, same, times, numbers_from}

module _ {A : Type 0} (f : A → ℕ) where
  pub total_set : (l : List A) (i : ℕ) (v w : A) → get_elem? l i ≡ some v → total f (set l i w) + f v ≡ total f l + f w
  total_set [] i v w e = absurd (some-ne-none v (sym e))
  total_set (x ∷ xs) zero v w e = let h : f x ≡ f v = ap f (some-injective x v e) in omega arith
  total_set (x ∷ xs) (suc i) v w e = let h = total_set xs i v w e in omega arith

  pub total_snoc : (l : List A) (x : A) → total f (l ++ x ∷ []) ≡ total f l + f x
  total_snoc [] x = omega arith
  total_snoc (y ∷ ys) x = let h = total_snoc ys x in omega arith

  pub total_at : (l : List A) (i : ℕ) (v : A) → get_elem? l i ≡ some v → f v ≤ total f l
  total_at [] i v e = absurd (some-ne-none v (sym e))
  total_at (x ∷ xs) zero v e = let h : f x ≡ f v = ap f (some-injective x v e) in omega arith
  total_at (x ∷ xs) (suc i) v e = let h = total_at xs i v e in omega arith

  pub total_two : (l : List A) (i j : ℕ) (v w : A) → i ≢ j → get_elem? l i ≡ some v → get_elem? l j ≡ some w → f v + f w ≤ total f l
  total_two [] i j v w apart e d = absurd (some-ne-none v (sym e))
  total_two (x ∷ xs) zero zero v w apart e d = absurd (apart refl)
  total_two (x ∷ xs) zero (suc j) v w apart e d = let h : f x ≡ f v = ap f (some-injective x v e) in let k = total_at xs j w d in omega arith
  total_two (x ∷ xs) (suc i) zero v w apart e d = let h : f x ≡ f w = ap f (some-injective x w d) in let k = total_at xs i v e in omega arith
  total_two (x ∷ xs) (suc i) (suc j) v w apart e d = let h = total_two xs i j v w (λ s. apart (ap suc s)) e d in omega arith

  pub total_none : (l : List A) → ((j : ℕ) (u : A) → get_elem? l j ≡ some u → f u ≡ 0) → total f l ≡ 0
  total_none [] each = refl
  total_none (x ∷ xs) each = let h : f x ≡ 0 = each 0 x refl in let k = total_none xs (λ j u e. each (suc j) u e) in omega arith

  pub total_below : (g : A → ℕ) (l : List A) → ((j : ℕ) (u : A) → get_elem? l j ≡ some u → f u ≤ g u) → total f l ≤ total g l
  total_below g [] each = omega arith
  total_below g (x ∷ xs) each = let h : f x ≤ g x = each 0 x refl in let k = total_below g xs (λ j u e. each (suc j) u e) in omega arith

pub same_self : (x y : ℕ) → x ≡ y → same x y ≡ 1
same_self x y e = rw (eq-eqb x y e)

pub same_other : (x y : ℕ) → x ≢ y → same x y ≡ 0
same_other x y n = rw (ne_eqb x y n)

pub times-append : (n : ℕ) (xs ys : List ℕ) → times n (xs ++ ys) ≡ times n xs + times n ys
times-append n [] ys = omega arith
times-append n (x ∷ xs) ys = let h = times-append n xs ys in omega arith

-- numbers from a on are those below a + n, each once
pub times_early : (x first n : ℕ) → x < first → times x (numbers_from first n) ≡ 0
times_early x first zero h = refl
times_early x first (suc n) h = let a = same_other first x (λ e. omega arith) in let b = times_early x (suc first) n (omega arith) in omega arith

pub times_once : (x first n : ℕ) → times x (numbers_from first n) ≤ 1
times_once x first zero = omega arith
times_once x first (suc n) = dite (ℕ_discrete first x)
    (λ e. let a = same_self first x e in let b = times_early x (suc first) n (omega arith) in omega arith)
    (λ ne. let a = same_other first x ne in let b = times_once x (suc first) n in omega arith)

pub times_within : (x first n : ℕ) → 0 < times x (numbers_from first n) → x < first + n
times_within x first zero h = absurd (omega arith)
times_within x first (suc n) h = dite (ℕ_discrete first x)
    (λ e. omega arith)
    (λ ne. let a = same_other first x ne in let b = times_within x (suc first) n (omega arith) in omega arith)

pub times_there : (x first n : ℕ) → first ≤ x → x < first + n → times x (numbers_from first n) ≡ 1
times_there x first zero low high = absurd (omega arith)
times_there x first (suc n) low high = dite (ℕ_discrete first x)
    (λ e. let a = same_self first x e in let b = times_early x (suc first) n (omega arith) in omega arith)
    (λ ne. let a = same_other first x ne in let b = times_there x (suc first) n (omega arith) (omega arith) in omega arith)

pub length-numbers_from : (first n : ℕ) → length (numbers_from first n) ≡ n
length-numbers_from first zero = refl
length-numbers_from first (suc n) = ap suc (length-numbers_from (suc first) n)
