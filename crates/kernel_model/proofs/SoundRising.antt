-- Maps whose numbers rise: what a search finds is what the map has at its number.
use Rattle.std.proofs.Common.{◌≡◌, ℕ, Bool, true, false, cond, List, [], ◌∷◌, Some, None, refl, ap, sym, ◌∙◌, arith}
use Rattle.std.specs.Prelude.{All, ◌&&◌, find}
use Rattle.std.specs.Ordering.{nat_cmp, eq_by_cmp, is_lt}
use Rattle.std.specs.FinMap.Entries as Entries
use Rattle.std.proofs.lemmas.Bool.Decides.{nat_tests}
use Rattle.std.proofs.lemmas.List.Elements.{All-cons, All-nil}
use Rattle.base.specs.NumberMap.{NumberMap, IsRising, get}
use Rattle.base.proofs.MapLemmas.{All-get}
use Rattle.kernel_model.proofs.SoundMaps.{find-all}

pub both_parts : (a b : Bool) → (a && b) ≡ true → (a ≡ true) × (b ≡ true)
both_parts true true e = (refl, refl)
both_parts true false e = absurd cc
both_parts false b e = absurd cc

differs : (a b : ℕ) → is_lt (nat_cmp a b) ≡ true → eq_by_cmp nat_cmp a b ≡ false
differs a b e = grind (arith, nat_tests)

pub tied_number : (a b : ℕ) → eq_by_cmp nat_cmp a b ≡ true → a ≡ b
tied_number a b e = grind (arith, nat_tests)

pub tied_self : (a : ℕ) → eq_by_cmp nat_cmp a a ≡ true
tied_self a = grind (arith, nat_tests)

-- what is below all numbers of a map has nothing
pub below_none : {X : Type 0} (k : ℕ) (m : NumberMap X) → Entries.below_all nat_cmp k m ≡ true → get m k ≡ None
below_none k [] below = refl
below_none {X} k (e ∷ es) below =
    let parts = both_parts (is_lt (nat_cmp k e.0)) (Entries.below_all nat_cmp k es) below in
    ap (λ b. cond b (Some e.1) (get es k)) (differs k e.0 parts.0) ∙ below_none k es parts.1

first_apart : {X : Type 0} (e : ℕ × X) (es : NumberMap X) (k : ℕ) (v : X) → Entries.below_all nat_cmp e.0 es ≡ true → get es k ≡ Some v
    → get (e ∷ es) k ≡ Some v
first_apart {X} e es k v below found = by_test (eq_by_cmp nat_cmp k e.0) refl
  where
    by_test : (b : Bool) → eq_by_cmp nat_cmp k e.0 ≡ b → cond b (Some e.1) (get es k) ≡ Some v
    by_test true same =
        let no : None ≡ Some v = sym (below_none e.0 es below) ∙ ap (λ n. get es n) (sym (tied_number k e.0 same)) ∙ found in absurd cc
    by_test false other = found

-- what holds of all that the map has at its numbers holds of each entry
pub all_got : {X : Type 0} (P : ℕ × X → Type 0) (m : NumberMap X) → IsRising m → ((k : ℕ) (v : X) → get m k ≡ Some v → P (k, v)) → All P m
all_got P [] rising all = All-nil P
all_got {X} P (e ∷ es) rising all =
    let parts = both_parts (Entries.below_all nat_cmp e.0 es) (Entries.is_sorted nat_cmp es) rising in
    All-cons P e es (all e.0 e.1 (ap (λ b. cond b (Some e.1) (get es e.0)) (tied_self e.0)))
    (all_got P es parts.1 (λ k v found. all k v (first_apart e es k v parts.0 found)))

-- what a search finds is there, and passes its test
pub found_there : {X : Type 0} (m : NumberMap X) (test : ℕ × X → Bool) (entry : ℕ × X) → IsRising m → find test m ≡ Some entry
    → (get m entry.0 ≡ Some entry.1) × (test entry ≡ true)
found_there {X} m test entry rising e =
    let found = find-all (λ (kept : ℕ × X). get m kept.0 ≡ Some kept.1) test m entry (all_got (λ (kept : ℕ × X). get m kept.0 ≡ Some kept.1) m rising (λ k v there. there)) e in
    (found.holds, found.passes)

-- where a search finds nothing, nothing that is there passes its test
fails_all : {X : Type 0} (test : X → Bool) (xs : List X) → find test xs ≡ None → All (λ x. test x ≡ false) xs
fails_all test [] e = All-nil (λ x. test x ≡ false)
fails_all {X} test (first ∷ xs) e = by_test (test first) refl (fails_all test xs) e
  where
    by_test : (b : Bool) → test first ≡ b → (find test xs ≡ None → All (λ x. test x ≡ false) xs) → cond b (Some first) (find test xs) ≡ None
        → All (λ x. test x ≡ false) (first ∷ xs)
    by_test true is rest none = absurd cc
    by_test false is rest none = All-cons (λ x. test x ≡ false) first xs is (rest none)

pub none_passes : {X : Type 0} (m : NumberMap X) (test : ℕ × X → Bool) (k : ℕ) (v : X) → find test m ≡ None → get m k ≡ Some v → test (k, v) ≡ false
none_passes {X} m test k v none there = All-get (λ (kept : ℕ × X). test kept ≡ false) m k v (fails_all test m none) there
