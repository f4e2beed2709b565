-- Two journals that have verdicts show something of a session, and of a group.
use Rattle.std.proofs.Common.{◌≡◌, ◌⊎◌, ℕ, suc, List, [], ◌∷◌, length, take, Option, Some, None, refl, sym, ap, ◌∙◌, inl, inr}
use Rattle.std.specs.Prelude.{IsSome}
use Rattle.audit_model.specs.Laws.{HasVerdict}
use Rattle.audit_model.specs.Verdicts.{IsVerdict}
use Rattle.audit_model.specs.declared.verdict.Verdict.{Verdict}
use Rattle.audit_model.specs.declared.verdict.Verdict.TheVariants as verdict
use Rattle.compare_model.specs.Comparing.{AreOfOne, AreShownAs, CanBeBoth, DifferFirstAt, Pair, Shown, core_of, group_in, session_in}
use Rattle.compare_model.specs.declared.compared.Compared.{Compared}
use Rattle.compare_model.specs.declared.compared.Compared.TheVariants.{Illegal, Absent, Other, Events, Same}
use Rattle.compare_model.specs.declared.subject.Subject.{Subject}
use Rattle.compare_model.specs.declared.subject.Subject.TheVariants.{Session, Group}
use Rattle.kernel_model.specs.Application.{Application}
use Rattle.journal_runner.specs.Laws.{HasComparison}
use Rattle.journal_runner.proofs.Equalities.{app_discrete, event_discrete, group_event_discrete, key_discrete}

-- ---- two lists are the same, or there is a first place where they differ

module _ {E : Type 0} where
  none_there : (x : E) → Some x ≡ None → ⊥
  none_there x e = absurd cc

  at_front : (x y : E) (xs ys : List E) → (x ≡ y → ⊥) → DifferFirstAt (x ∷ xs) (y ∷ ys) 0
  at_front x y xs ys apart =
      record { same_before = refl; differ = λ e. let both : Some x ≡ Some y = e in let same : x ≡ y = cc in apart same }

  -- behind equal elements
  further : (x y : E) (xs ys : List E) (at : ℕ) → x ≡ y → DifferFirstAt xs ys at → DifferFirstAt (x ∷ xs) (y ∷ ys) (suc at)
  further x y xs ys at same differ =
      let before = differ.same_before in
      let front : x ∷ take at xs ≡ y ∷ take at ys = cc in
      record { same_before = front; differ = differ.differ }

  behind : (x y : E) (xs ys : List E) → Dec (x ≡ y) → (xs ≡ ys) ⊎ ((at : ℕ) × DifferFirstAt xs ys at)
      → ((x ∷ xs) ≡ (y ∷ ys)) ⊎ ((at : ℕ) × DifferFirstAt (x ∷ xs) (y ∷ ys) at)
  behind x y xs ys (no apart) rest = inr (0, at_front x y xs ys apart)
  behind x y xs ys (yes same) (inl rest) = inl cc
  behind x y xs ys (yes same) (inr (at, differ)) = inr (suc at, further x y xs ys at same differ)

  first_difference : Discrete E → (one other : List E) → (one ≡ other) ⊎ ((at : ℕ) × DifferFirstAt one other at)
  first_difference discrete [] [] = inl refl
  first_difference discrete [] (y ∷ ys) = inr (0, record { same_before = refl; differ = λ e. none_there y (sym e) })
  first_difference discrete (x ∷ xs) [] = inr (0, record { same_before = refl; differ = none_there x })
  first_difference discrete (x ∷ xs) (y ∷ ys) = behind x y xs ys (discrete x y) (first_difference discrete xs ys)

-- ---- by what each of the two shows

some_is : (found : Option Application) (app : Application) → found ≡ Some app → IsSome found
some_is (Some one) app is = refl
some_is None app is = absurd cc

module _ {E R : Type 0} (discrete : Discrete E) (pair : Pair) (one two : Shown E R) where
  -- they show this
  abbrev ShowSome : Type 0
  ShowSome = (compared : Compared) × AreShownAs pair one two compared

  by_events : CanBeBoth pair → AreOfOne pair one.app two.app
      → (one.events ≡ two.events) ⊎ ((at : ℕ) × DifferFirstAt one.events two.events at) → ShowSome
  by_events can are (inl same) = (Same (length one.replies), (can, are, same, refl))
  by_events can are (inr (at, differ)) = (Events at, (can, are, differ))

  by_two : CanBeBoth pair → (app other : Application) → one.app ≡ Some app → two.app ≡ Some other
      → Dec (app ≡ other) → Dec (pair.one.boot.key ≡ pair.two.boot.key) → ShowSome
  by_two can app other in_one in_two (no apart) keys =
      (Other, (can, record { app = app; other = other; in_one = in_one; in_two = in_two; differ = inl apart }))
  by_two can app other in_one in_two (yes same) (no apart) =
      (Other, (can, record { app = app; other = other; in_one = in_one; in_two = in_two; differ = inr apart }))
  by_two can app other in_one in_two (yes same) (yes keys) =
      by_events can (record {
        app = app;
        in_one = in_one;
        in_two = in_two ∙ ap (λ (a : Application). Some a) (sym same);
        keys = keys;
      }) (first_difference discrete one.events two.events)

  by_apps : CanBeBoth pair → (of_one of_two : Option Application) → one.app ≡ of_one → two.app ≡ of_two → ShowSome
  by_apps can None of_two in_one in_two = (Absent 1, (can, inl (refl, in_one)))
  by_apps can (Some app) None in_one in_two = (Absent 2, (can, inr (refl, some_is one.app app in_one, in_two)))
  by_apps can (Some app) (Some other) in_one in_two =
      by_two can app other in_one in_two (app_discrete app other) (key_discrete pair.one.boot.key pair.two.boot.key)

  by_verdicts : (first second : Verdict) → IsVerdict (core_of pair pair.one) pair.one.events first
      → IsVerdict (core_of pair pair.two) pair.two.events second → ShowSome
  by_verdicts (verdict.Illegal at) second fails is = (Illegal 1 at, inl (refl, fails))
  by_verdicts verdict.Legal (verdict.Illegal at) can fails = (Illegal 2 at, inr (refl, can, fails))
  by_verdicts verdict.Legal verdict.Legal can may = by_apps (can, may) one.app two.app refl refl

-- ---- of a session and of a group

pub show_something : (pair : Pair) (subject : Subject) → HasVerdict (core_of pair pair.one) pair.one.events
    → HasVerdict (core_of pair pair.two) pair.two.events → HasComparison pair subject
show_something pair (Session session) one two =
    let shown =
    by_verdicts event_discrete pair (session_in pair session pair.one) (session_in pair session pair.two) one.verdict two.verdict
    one.is_verdict two.is_verdict in
    record { compared = shown.0; is_compared = shown.1 }
show_something pair (Group uuid) one two =
    let shown =
    by_verdicts group_event_discrete pair (group_in pair uuid pair.one) (group_in pair uuid pair.two) one.verdict two.verdict
    one.is_verdict two.is_verdict in
    record { compared = shown.0; is_compared = shown.1 }
