-- Two journals and a session or a group have at most one answer.
use Rattle.std.proofs.Common.{◌≡◌, ℕ, zero, suc, ◌<◌, List, [], ◌∷◌, take, Option, Some, None, refl, sym, ap, ◌∙◌, inl, inr, arith}
use Rattle.std.specs.Prelude.{IsSome, slice_get}
use Rattle.std.proofs.lemmas.Bool.{cases_lt}
use Rattle.audit_model.proofs.Prefixes.{cannot_fail, same_place}
use Rattle.compare_model.specs.Comparing.{AreOfOne, AreOfTwo, AreShownAs, CanBeBoth, DifferFirstAt, IsAbsentIn, IsIllegalIn, Pair, Shown}
use Rattle.compare_model.specs.Comparing.{core_of, group_in, session_in}
use Rattle.compare_model.specs.Laws.{OneComparison}
use Rattle.compare_model.specs.declared.compared.Compared.{Compared}
use Rattle.compare_model.specs.declared.compared.Compared.TheVariants.{Illegal, Absent, Other, Events, Same}
use Rattle.compare_model.specs.declared.subject.Subject.TheVariants.{Session, Group}
use Rattle.kernel_model.specs.Application.{Application}

-- ---- journals that can't be

one_illegal : (pair : Pair) (of at which other : ℕ) → IsIllegalIn pair of at → IsIllegalIn pair which other → Illegal of at ≡ Illegal which other
one_illegal pair of at which other (inl (first, fails)) (inl (also, fails_too)) =
    let same = same_place (core_of pair pair.one) pair.one.events at other fails fails_too in
    let number : of ≡ which = first ∙ sym also in
    cc
one_illegal pair of at which other (inl (first, fails)) (inr (second, can, fails_too)) = absurd (cannot_fail (core_of pair pair.one) pair.one.events at can fails)
one_illegal pair of at which other (inr (second, can, fails)) (inl (first, fails_too)) = absurd (cannot_fail (core_of pair pair.one) pair.one.events other can fails_too)
one_illegal pair of at which other (inr (second, can, fails)) (inr (also, can_too, fails_too)) =
    let same = same_place (core_of pair pair.two) pair.two.events at other fails fails_too in
    let number : of ≡ which = second ∙ sym also in
    cc

neither_fails : (pair : Pair) (of at : ℕ) → IsIllegalIn pair of at → CanBeBoth pair → ⊥
neither_fails pair of at (inl (first, fails)) can = cannot_fail (core_of pair pair.one) pair.one.events at can.0 fails
neither_fails pair of at (inr (second, can_one, fails)) can = cannot_fail (core_of pair pair.two) pair.two.events at can.1 fails

-- ---- applications

not_both : (found : Option Application) (app : Application) → found ≡ None → found ≡ Some app → ⊥
not_both found app none some = cc

not_some : (found : Option Application) → found ≡ None → IsSome found → ⊥
not_some None none some = cc
not_some (Some app) none some = cc

same_app : (found : Option Application) (app other : Application) → found ≡ Some app → found ≡ Some other → app ≡ other
same_app found app other is is_too = cc

module _ (one two : Option Application) where
  one_absent : (of which : ℕ) → IsAbsentIn one two of → IsAbsentIn one two which → Absent of ≡ Absent which
  one_absent of which (inl (first, none)) (inl (also, none_too)) = let number : of ≡ which = first ∙ sym also in cc
  one_absent of which (inl (first, none)) (inr (second, some, none_too)) = absurd (not_some one none some)
  one_absent of which (inr (second, some, none)) (inl (first, none_too)) = absurd (not_some one none_too some)
  one_absent of which (inr (second, some, none)) (inr (also, some_too, none_too)) = let number : of ≡ which = second ∙ sym also in cc

  module _ (pair : Pair) where
    not_of_two : (of : ℕ) → IsAbsentIn one two of → AreOfTwo pair one two → ⊥
    not_of_two of (inl (first, none)) are = not_both one are.app none are.in_one
    not_of_two of (inr (second, some, none)) are = not_both two are.other none are.in_two

    not_of_one : (of : ℕ) → IsAbsentIn one two of → AreOfOne pair one two → ⊥
    not_of_one of (inl (first, none)) are = not_both one are.app none are.in_one
    not_of_one of (inr (second, some, none)) are = not_both two are.app none are.in_two

    one_or_two : AreOfTwo pair one two → AreOfOne pair one two → ⊥
    one_or_two apart are =
        elim apart.differ [
          | inl other ↦
              other (same_app one apart.app are.app apart.in_one are.in_one ∙ same_app two are.app apart.other are.in_two apart.in_two)
          | inr keys ↦ keys are.keys
        ]

-- ---- events

module _ {E : Type 0} where
  -- an element below the count of those that are taken
  taken_has : (events : List E) (count at : ℕ) → at < count → slice_get (take count events) at ≡ slice_get events at
  taken_has [] zero at below = refl
  taken_has [] (suc count) at below = refl
  taken_has (event ∷ events) zero at below = absurd (omega (arith, below))
  taken_has (event ∷ events) (suc count) zero below = refl
  taken_has (event ∷ events) (suc count) (suc at) below = taken_has events count at (omega (arith, below))

  not_earlier : (one other : List E) (at then : ℕ) → DifferFirstAt one other at → DifferFirstAt one other then → at < then → ⊥
  not_earlier one other at then first second earlier =
      first.differ (sym (taken_has one then at earlier) ∙ ap (λ (taken : List E). slice_get taken at) second.same_before ∙ taken_has other then at earlier)

  one_difference : (one other : List E) (at then : ℕ) → DifferFirstAt one other at → DifferFirstAt one other then → at ≡ then
  one_difference one other at then first second =
      elim (cases_lt at then) [
        | inl lt ↦ absurd (not_earlier one other at then first second lt)
        | inr le ↦
            elim (cases_lt then at) [
              | inl gt ↦ absurd (not_earlier one other then at second first gt)
              | inr ge ↦ omega arith
            ]
      ]

  same_or_not : (one other : List E) (at : ℕ) → DifferFirstAt one other at → one ≡ other → ⊥
  same_or_not one other at first same = first.differ (ap (λ (events : List E). slice_get events at) same)

-- ---- all answers

module _ {E R : Type 0} (pair : Pair) (one two : Shown E R) where
  one_answer : (told other : Compared) → AreShownAs pair one two told → AreShownAs pair one two other → told ≡ other
  one_answer (Illegal of at) (Illegal which then) a b = one_illegal pair of at which then a b
  one_answer (Illegal of at) (Absent which) a b = absurd (neither_fails pair of at a b.0)
  one_answer (Illegal of at) Other a b = absurd (neither_fails pair of at a b.0)
  one_answer (Illegal of at) (Events then) a b = absurd (neither_fails pair of at a b.0)
  one_answer (Illegal of at) (Same count) a b = absurd (neither_fails pair of at a b.0)
  one_answer (Absent of) (Illegal which then) a b = absurd (neither_fails pair which then b a.0)
  one_answer (Absent of) (Absent which) a b = one_absent one.app two.app of which a.1 b.1
  one_answer (Absent of) Other a b = absurd (not_of_two one.app two.app pair of a.1 b.1)
  one_answer (Absent of) (Events then) a b = absurd (not_of_one one.app two.app pair of a.1 b.1)
  one_answer (Absent of) (Same count) a b = absurd (not_of_one one.app two.app pair of a.1 b.1)
  one_answer Other (Illegal which then) a b = absurd (neither_fails pair which then b a.0)
  one_answer Other (Absent which) a b = absurd (not_of_two one.app two.app pair which b.1 a.1)
  one_answer Other Other a b = refl
  one_answer Other (Events then) a b = absurd (one_or_two one.app two.app pair a.1 b.1)
  one_answer Other (Same count) a b = absurd (one_or_two one.app two.app pair a.1 b.1)
  one_answer (Events at) (Illegal which then) a b = absurd (neither_fails pair which then b a.0)
  one_answer (Events at) (Absent which) a b = absurd (not_of_one one.app two.app pair which b.1 a.1)
  one_answer (Events at) Other a b = absurd (one_or_two one.app two.app pair b.1 a.1)
  one_answer (Events at) (Events then) a b = ap (λ (n : ℕ). Events n) (one_difference one.events two.events at then a.2 b.2)
  one_answer (Events at) (Same count) a b = absurd (same_or_not one.events two.events at a.2 b.2)
  one_answer (Same count) (Illegal which then) a b = absurd (neither_fails pair which then b a.0)
  one_answer (Same count) (Absent which) a b = absurd (not_of_one one.app two.app pair which b.1 a.1)
  one_answer (Same count) Other a b = absurd (one_or_two one.app two.app pair b.1 a.1)
  one_answer (Same count) (Events at) a b = absurd (same_or_not one.events two.events at b.2 a.2)
  one_answer (Same count) (Same then) a b = ap (λ (n : ℕ). Same n) (a.3 ∙ sym b.3)

pub one_comparison : OneComparison
one_comparison pair (Session session) told other a b =
    one_answer pair (session_in pair session pair.one) (session_in pair session pair.two) told other a b
one_comparison pair (Group uuid) told other a b =
    one_answer pair (group_in pair uuid pair.one) (group_in pair uuid pair.two) told other a b
