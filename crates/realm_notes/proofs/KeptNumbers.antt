-- A map of the library, as a finite map of the definitions.
use Rattle.std.proofs.Common.{◌≡◌, ℕ, cond, List, [], ◌∷◌, Option, Some, refl, ap, ◌∙◌}
use Rattle.std.specs.BTreeMap.{insert_entry, is_at}
use Rattle.std.specs.FinMap.Entries.{by_order}
use Rattle.std.specs.Map.{lookup}
use Rattle.std.specs.Ordering.{eq_by_cmp, match_ordering, nat_cmp}
use Rattle.std.specs.declared.cmp.Ordering.{Ordering}
use Rattle.std.specs.declared.cmp.Ordering.TheVariants.{Less, Equal, Greater}
use Rattle.base.specs.NumberMap.{NumberMap, get, insert}

pub found_at : {X : Type 0} (m : NumberMap X) (at : ℕ) → lookup (is_at (nat_cmp at)) m ≡ get m at
found_at [] at = refl
found_at {X} (e ∷ es) at = ap (λ (o : Option X). cond (eq_by_cmp nat_cmp at e.0) (Some e.1) o) (found_at es at)

ordered : {A : Type 0} (order : Ordering) (a b c : A) → match_ordering order a b c ≡ by_order order a b c
ordered Less a b c = refl
ordered Equal a b c = refl
ordered Greater a b c = refl

pub kept_at : {X : Type 0} (m : NumberMap X) (at : ℕ) (value : X) → insert_entry nat_cmp m at value ≡ insert m at value
kept_at [] at value = refl
kept_at {X} (e ∷ es) at value =
    ap (λ (rest : List (ℕ × X)). match_ordering (nat_cmp at e.0) ((at, value) ∷ e ∷ es) ((e.0, value) ∷ es) (e ∷ rest)) (kept_at es at value)
    ∙ ordered (nat_cmp at e.0) ((at, value) ∷ e ∷ es) ((e.0, value) ∷ es) (e ∷ insert es at value)
