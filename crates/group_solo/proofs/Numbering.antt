-- The numbers of a group's machine stay those that were given.
use Rattle.std.proofs.Common.{◌≡◌, ℕ, Bool, true, false, not, cond, [], ◌∷◌, Some, refl, subst, arith}
use Rattle.std.specs.List.{AllByRecursion}
use Rattle.std.specs.Ordering.{nat_cmp, eq_by_cmp}
use Rattle.std.specs.declared.cmp.Ordering.{Ordering}
use Rattle.std.specs.declared.cmp.Ordering.TheVariants.{Less, Equal, Greater}
use Rattle.std.specs.FinMap.Entries as Entries
use Rattle.base.specs.NumberMap.{NumberMap, get, insert, remove}
use Rattle.std.proofs.lemmas.Bool.Decides.{nat_tests}

-- ---- what holds of all entries

-- of all numbers
abbrev pub AllNumbers : {X : Type 0} → (ℕ → Type 0) → NumberMap X → Type 0
AllNumbers {X} P m = AllByRecursion (λ (entry : ℕ × X). P entry.0) m

pub all-insert : {X : Type 0} (P : ℕ → Type 0) (m : NumberMap X) (number : ℕ) (x : X) → P number → AllNumbers P m → AllNumbers P (insert m number x)
all-insert P [] number x holds all = (holds, tt)
all-insert P (e ∷ es) number x holds all =
    elim (nat_cmp number e.0) as (λ (r : Ordering). AllNumbers P (Entries.by_order r ((number, x) ∷ e ∷ es) ((e.0, x) ∷ es) (e ∷ insert es number x))) [
      | Less ↦ (holds, all)
      | Equal ↦ (all.0, all.1)
      | Greater ↦ (all.0, all-insert P es number x holds all.1)
    ]

pub all-remove : {X : Type 0} (P : ℕ → Type 0) (m : NumberMap X) (number : ℕ) → AllNumbers P m → AllNumbers P (remove m number)
all-remove P [] number all = tt
all-remove P (e ∷ es) number all =
    elim (eq_by_cmp nat_cmp number e.0) as (λ (b : Bool). AllNumbers P (cond (not b) (e ∷ remove es number) (remove es number))) [
      | true ↦ all-remove P es number all.1
      | false ↦ (all.0, all-remove P es number all.1)
    ]

pub all-more : {X : Type 0} (P Q : ℕ → Type 0) → ((number : ℕ) → P number → Q number) → (m : NumberMap X) → AllNumbers P m → AllNumbers Q m
all-more P Q so [] all = tt
all-more P Q so (e ∷ es) all = (so e.0 all.0, all-more P Q so es all.1)

-- what holds of all numbers holds of one that is there
pub all-get : {X : Type 0} (P : ℕ → Type 0) (m : NumberMap X) (number : ℕ) (x : X) → AllNumbers P m → get m number ≡ Some x → P number
all-get P [] number x all there = absurd cc
all-get {X} P (e ∷ es) number x all there = by (eq_by_cmp nat_cmp number e.0) (λ behind. all-get P es number x all.1 behind) refl there
  where
    tied : (a b : ℕ) → eq_by_cmp nat_cmp a b ≡ true → b ≡ a
    tied a b e = grind (arith, nat_tests)

    by : (b : Bool) → (get es number ≡ Some x → P number) → eq_by_cmp nat_cmp number e.0 ≡ b → cond b (Some e.1) (get es number) ≡ Some x → P number
    by true rest same is = subst P (tied number e.0 same) all.0
    by false rest apart is = rest is
