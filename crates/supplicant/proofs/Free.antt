-- The lowest free descriptor is free: the keys of a map rise, so those from a number on can't all be in use up to behind as many.
use Rattle.std.proofs.Common.{◌≡◌, ℕ, zero, suc, ◌<◌, ◌≤◌, inl, inr, Bool, true, false, cond, List, [], ◌∷◌, length, refl, sym, subst, ◌∙◌, ap, arith}
use Rattle.std.proofs.Math.Nat.{eq-or-lt_of_le}
use Rattle.std.proofs.lemmas.Bool.Decides.{nat_tests}
use Rattle.std.proofs.lemmas.Map.{lookup-none}
use Rattle.std.proofs.lemmas.Map.Entries.{lookup_head, lookup_tail, none_below_head}
use Rattle.std.proofs.lemmas.Map.Keys.{sorted_head, sorted_tail}
use Rattle.std.specs.BTreeMap.{is_at}
use Rattle.std.specs.Cmp.{nat_cmp_is, nat_cmp_total, ranked, unsigned_tied}
use Rattle.std.specs.List.{AllByRecursion}
use Rattle.std.specs.List.Sorted.{IsStrictlySortedBy}
use Rattle.std.specs.Map.{keys_of}
use Rattle.std.specs.Ordering.{nat_cmp}
use Rattle.std.specs.Prelude.{is_some}
use Rattle.std.specs.declared.cmp.Ordering.TheVariants.{Less}
use Rattle.supplicant.specs.Files.{Descriptors, free_from, lowest_free, name_of}

-- ---- a search from a number on

later : (used : Bool) (fd behind : ℕ) → suc fd ≤ behind → fd ≤ cond used behind fd
later true fd behind more = omega arith
later false fd behind more = omega arith

from_on : (ds : Descriptors) (more fd : ℕ) → fd ≤ free_from ds more fd
from_on ds zero fd = omega arith
from_on ds (suc more) fd = later (is_some (name_of ds fd)) fd (free_from ds more (suc fd)) (from_on ds more (suc fd))

-- meets no entry before it
other : (fd key : ℕ) → key < fd → is_at (nat_cmp fd) key ≡ false
other fd key before = unsigned_tied fd key ∙ grind (arith, nat_tests)

named_behind : (e : ℕ × List ℕ) (es : Descriptors) (fd : ℕ) → e.0 < fd → name_of (e ∷ es) fd ≡ name_of es fd
named_behind e es fd before = lookup_tail (is_at (nat_cmp fd)) e es (other fd e.0 before)

skipped : (e : ℕ × List ℕ) (es : Descriptors) (more fd : ℕ) → e.0 < fd → free_from (e ∷ es) more fd ≡ free_from es more fd
skipped e es zero fd before = refl
skipped e es (suc more) fd before =
    ap (λ name. cond (is_some name) (free_from (e ∷ es) more (suc fd)) fd) (named_behind e es fd before)
    ∙ ap (λ behind. cond (is_some (name_of es fd)) behind fd) (skipped e es more (suc fd) (omega arith))

-- ---- among keys that rise from that number on

Free : Descriptors → ℕ → Type 0
Free ds low = is_some (name_of ds (free_from ds (length ds) low)) ≡ false

itself : (fd : ℕ) → is_at (nat_cmp fd) fd ≡ true
itself fd = unsigned_tied fd fd ∙ grind (arith, nat_tests)

behind : (low : ℕ) (ks : List ℕ) → AllByRecursion (λ k. nat_cmp low k ≡ Less) ks → AllByRecursion (λ k. suc low ≤ k) ks
behind low [] rise = tt
behind low (k ∷ ks) rise = (ranked low k Less (sym rise.0), behind low ks rise.1)

-- the first key is that number
free_at : (e : ℕ × List ℕ) (es : Descriptors) → Free es (suc e.0) → Free (e ∷ es) e.0
unfolding Free
free_at e es rest =
    let used = lookup_head (is_at (nat_cmp e.0)) e es (itself e.0) in
    let found = free_from es (length es) (suc e.0) in
    ap (λ name. is_some (name_of (e ∷ es) (cond (is_some name) (free_from (e ∷ es) (length es) (suc e.0)) e.0))) used
    ∙ ap (λ fd. is_some (name_of (e ∷ es) fd)) (skipped e es (length es) (suc e.0) (omega arith))
    ∙ ap is_some (named_behind e es found (from_on es (length es) (suc e.0)))
    ∙ rest

-- or lies behind it
free_before : (e : ℕ × List ℕ) (es : Descriptors) (low : ℕ) → IsStrictlySortedBy nat_cmp (keys_of (e ∷ es)) → low < e.0 → Free (e ∷ es) low
unfolding Free
free_before e es low sorted before =
    let none = lookup-none (is_at (nat_cmp low)) (e ∷ es) (none_below_head nat_cmp_total low e es sorted (sym (nat_cmp_is low e.0 Less before))) in
    ap (λ name. is_some (name_of (e ∷ es) (cond (is_some name) (free_from (e ∷ es) (length es) (suc low)) low))) none
    ∙ ap is_some none

free_among : (ds : Descriptors) (low : ℕ) → AllByRecursion (λ k. low ≤ k) (keys_of ds) → IsStrictlySortedBy nat_cmp (keys_of ds) → Free ds low
unfolding Free
free_among [] low within sorted = refl
free_among (e ∷ es) low within sorted =
    let rest = free_among es (suc e.0) (behind e.0 (keys_of es) (sorted_head nat_cmp e.0 (keys_of es) sorted)) (sorted_tail nat_cmp e.0 (keys_of es) sorted) in
    elim (eq-or-lt_of_le within.0) [
      | inl same ↦ subst (λ n. is_some (name_of (e ∷ es) (free_from (e ∷ es) (length (e ∷ es)) n)) ≡ false) (sym same) (free_at e es rest)
      | inr before ↦ free_before e es low sorted before
    ]

all_from_none : (ks : List ℕ) → AllByRecursion (λ k. 0 ≤ k) ks
all_from_none [] = tt
all_from_none (k ∷ ks) = (omega arith, all_from_none ks)

pub lowest_is_free : (ds : Descriptors) → IsStrictlySortedBy nat_cmp (keys_of ds) → is_some (name_of ds (lowest_free ds)) ≡ false
unfolding Free
lowest_is_free ds sorted = free_among ds 0 (all_from_none (keys_of ds)) sorted
