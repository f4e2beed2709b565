-- Maps whose values stand for others.
use Rattle.std.proofs.Common.{◌≡◌, ℕ, ◌<◌, ◌==◌, Bool, true, false, not, cond, List, [], ◌∷◌, ◌++◌, map, Some, refl, sym, ap, ◌∙◌, arith}
use Rattle.std.specs.Prelude.{◌&&◌, ◌||◌, filter, find}
use Rattle.std.specs.List.{AllByRecursion, list_any}
use Rattle.std.specs.Option.{option_map}
use Rattle.std.specs.Ordering.{nat_cmp, eq_by_cmp}
use Rattle.std.specs.declared.cmp.Ordering.{Ordering}
use Rattle.std.specs.declared.cmp.Ordering.TheVariants.{Greater}
use Rattle.std.specs.FinMap.Entries as Entries
use Rattle.std.proofs.lemmas.Bool.Decides.{nat_tests}
use Rattle.base.specs.NumberMap.{NumberMap, get, insert, remove}

tied : (a b : ℕ) → (b == a) ≡ eq_by_cmp nat_cmp a b
tied a b = grind (arith, nat_tests)

-- the same numbers, with other values
abbrev pub mapped : {X Y : Type 0} → (X → Y) → NumberMap X → NumberMap Y
mapped {X} f entries = map (λ (e : ℕ × X). (e.0, f e.1)) entries

module _ {X Y : Type 0} (f : X → Y) where
  pub get-mapped : (entries : NumberMap X) (number : ℕ) →
      option_map (λ (e : ℕ × X). f e.1) (find (λ (e : ℕ × X). e.0 == number) entries) ≡ get (mapped f entries) number
  get-mapped [] number = refl
  get-mapped (e ∷ es) number =
      elim (e.0 == number) as (λ b. option_map (λ (e : ℕ × X). f e.1) (cond b (Some e) (find (λ (e : ℕ × X). e.0 == number) es)) ≡ cond b (Some (f e.1)) (get (mapped f es) number)) [
        | true ↦ refl
        | false ↦ get-mapped es number
      ]
      ∙ ap (λ (b : Bool). cond b (Some (f e.1)) (get (mapped f es) number)) (tied number e.0)

  pub remove-mapped : (entries : NumberMap X) (number : ℕ) →
      mapped f (filter (λ (e : ℕ × X). not (e.0 == number)) entries) ≡ remove (mapped f entries) number
  remove-mapped [] number = refl
  remove-mapped (e ∷ es) number =
      elim (e.0 == number) as (λ b. mapped f (cond (not b) (e ∷ filter (λ (e : ℕ × X). not (e.0 == number)) es) (filter (λ (e : ℕ × X). not (e.0 == number)) es))
      ≡ cond (not b) ((e.0, f e.1) ∷ remove (mapped f es) number) (remove (mapped f es) number)) [
        | true ↦ remove-mapped es number
        | false ↦ ap (λ (rest : NumberMap Y). (e.0, f e.1) ∷ rest) (remove-mapped es number)
      ]
      ∙ ap (λ (b : Bool). cond (not b) ((e.0, f e.1) ∷ remove (mapped f es) number) (remove (mapped f es) number)) (tied number e.0)

pub any-mapped : {X Y : Type 0} (f : X → Y) (test : Y → Bool) (entries : List X) → list_any (λ x. test (f x)) entries ≡ list_any test (map f entries)
any-mapped f test [] = refl
any-mapped f test (x ∷ xs) = ap (λ b. test (f x) || b) (any-mapped f test xs)

pub find-mapped : {X Y Z : Type 0} (f : X → Y) (g : Y → Z) (test : Y → Bool) (entries : List X) →
    option_map (λ x. g (f x)) (find (λ x. test (f x)) entries) ≡ option_map g (find test (map f entries))
find-mapped f g test [] = refl
find-mapped f g test (x ∷ xs) =
    elim (test (f x)) as (λ b. option_map (λ x. g (f x)) (cond b (Some x) (find (λ x. test (f x)) xs)) ≡ option_map g (cond b (Some (f x)) (find test (map f xs)))) [
      | true ↦ refl
      | false ↦ find-mapped f g test xs
    ]

pub filter-mapped : {X Y : Type 0} (f : X → Y) (test : Y → Bool) (entries : List X) →
    map f (filter (λ x. test (f x)) entries) ≡ filter test (map f entries)
filter-mapped f test [] = refl
filter-mapped f test (x ∷ xs) =
    elim (test (f x)) as (λ b. map f (cond b (x ∷ filter (λ x. test (f x)) xs) (filter (λ x. test (f x)) xs)) ≡ cond b (f x ∷ filter test (map f xs)) (filter test (map f xs))) [
      | true ↦ ap (λ rest. f x ∷ rest) (filter-mapped f test xs)
      | false ↦ filter-mapped f test xs
    ]

-- what a test finds of those that pass another
pub any-filtered : {X : Type 0} (kept test : X → Bool) (xs : List X) → list_any (λ x. kept x && test x) xs ≡ list_any test (filter kept xs)
any-filtered kept test [] = refl
any-filtered kept test (x ∷ xs) =
    elim (kept x) as (λ b. ((b && test x) || list_any (λ x. kept x && test x) xs) ≡ list_any test (cond b (x ∷ filter kept xs) (filter kept xs))) [
      | true ↦ ap (λ b. test x || b) (any-filtered kept test xs)
      | false ↦ any-filtered kept test xs
    ]

above : (a b : ℕ) → b < a → nat_cmp a b ≡ Greater
above a b less = grind (arith, nat_tests)

-- behind all others
pub put-last : {X : Type 0} (entries : NumberMap X) (number : ℕ) (x : X) → AllByRecursion (λ (e : ℕ × X). e.0 < number) entries →
    entries ++ (number, x) ∷ [] ≡ insert entries number x
put-last [] number x below = refl
put-last (e ∷ es) number x below =
    ap (λ rest. e ∷ rest) (put-last es number x below.1)
    ∙ ap (λ (r : Ordering). Entries.by_order r ((number, x) ∷ e ∷ es) ((e.0, x) ∷ es) (e ∷ insert es number x)) (sym (above number e.0 below.0))
