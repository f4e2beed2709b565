-- What two logs show is what the two journals show.
use Rattle.std.proofs.Common.{◌≡◌, ◌↔◌, ℕ, List, Bool, true, false, Option, Some, None, refl, ap, sym, subst, ◌∙◌, length, inl, inr}
use Rattle.std.specs.Prelude.{IfOk, IsSome, IsTrue, ◌⊎◌, Result, Ok, Err, if◌then◌else◌}
use Rattle.std.specs.Option.{option_and_then, option_map}
use Rattle.base.specs.declared.no_memory.NoMemory.{NoMemory}
use Rattle.compare_model.proofs.Replies.{same_gives_same_replies}
use Rattle.compare_model.specs.Comparing.{AreOfOne, AreShownAs, CanBe, CanBeBoth, DifferFirstAt, FailsAt, HaveSameReplies, IsAbsentIn, IsComparedAs, Pair}
use Rattle.compare_model.specs.Comparing.{Shown, core_of, if_shared}
use Rattle.compare_model.specs.declared.compared.Compared.{Compared}
use Rattle.compare_model.specs.declared.compared.Compared.TheVariants.{Absent, Events, Illegal, Other, Same}
use Rattle.compare_model.specs.declared.subject.Subject.{Subject}
use Rattle.compare_model.specs.declared.subject.Subject.TheVariants.{Group, Session}
use Rattle.kernel_model.specs.Application.{Application}
use Rattle.kernel_model.specs.Instances.{app_of, is_single}
use Rattle.kernel_state.specs.Setup.{application_of}
use Rattle.kernel_state.specs.declared.setup.Application.{Application as AnyApplication}
use Rattle.journal_notes.specs.Logs.{events_in}
use Rattle.session_compare.specs.Logs.{AreToldApart, IsLoggedAs, IsShownBy}
use Rattle.session_compare.specs.Pairs.{IsToldIllegal}
use Rattle.session_compare.specs.Comparisons.{Compares, ShowsEvents}
use Rattle.session_compare.specs.declared.differing.Comparison.{Comparison}
use Rattle.session_compare.specs.declared.differing.Side.TheVariants.{First}

-- ---- a journal that can't be

-- whatever is compared, the first is illegal; or the second, where the first can be
pub illegal_in_one : (pair : Pair) (subject : Subject) (at : ℕ) → FailsAt pair pair.one at → IsComparedAs pair subject (Illegal 1 at)
illegal_in_one pair (Session session) at fails = inl (refl, fails)
illegal_in_one pair (Group uuid) at fails = inl (refl, fails)

pub illegal_in_two : (pair : Pair) (subject : Subject) (at : ℕ) → CanBe pair pair.one → FailsAt pair pair.two at
    → IsComparedAs pair subject (Illegal 2 at)
illegal_in_two pair (Session session) at can fails = inr (refl, can, fails)
illegal_in_two pair (Group uuid) at can fails = inr (refl, can, fails)

-- ---- what each of two journals shows, by a log

module _ {E R : Type 0} where
  pub told_illegal : (pair : Pair) (one two : Shown E R) (told : Compared) → IsToldIllegal pair told → AreShownAs pair one two told
  told_illegal pair one two (Illegal of at) is = is
  told_illegal pair one two (Absent of) is = absurd is
  told_illegal pair one two Other is = absurd is
  told_illegal pair one two (Events at) is = absurd is
  told_illegal pair one two (Same count) is = absurd is

  pub illegal_answer : (pair : Pair) (one two : Shown E R) (result : Result Compared NoMemory) → IfOk result (IsToldIllegal pair)
      → IfOk result (AreShownAs pair one two)
  illegal_answer pair one two (Ok told) is = told_illegal pair one two told is
  illegal_answer pair one two (Err error) is = tt

  module _ (pair : Pair) (one two : Shown E R) (can : CanBeBoth pair) where
    apart_so : (told : Compared) → AreToldApart pair one.app two.app (Some told) → AreShownAs pair one two told
    apart_so (Illegal of at) is = absurd is
    apart_so (Absent of) is = (can, is)
    apart_so Other is = (can, is)
    apart_so (Events at) is = absurd is
    apart_so (Same count) is = absurd is

    module _ (app other : Option AnyApplication) (log log_too : List (E × Option R)) (its : IsLoggedAs one app log)
        (other_its : IsLoggedAs two other log_too) where
      told_so : (told : Option Compared) → AreToldApart pair (option_map application_of app) (option_map application_of other) told
          → AreToldApart pair one.app two.app told
      told_so told is =
          subst (λ (o : Option Application). AreToldApart pair o two.app told) (sym its.app_is)
          (subst (λ (o : Option Application). AreToldApart pair (option_map application_of app) o told) (sym other_its.app_is) is)

      -- the applications differ
      pub shown_apart : (told : Compared)
          → AreToldApart pair (option_map application_of app) (option_map application_of other) (Some told) → AreShownAs pair one two told
      shown_apart told is = apart_so told (told_so (Some told) is)

      alike_so : AreOfOne pair one.app two.app → (told : Compared) → IsShownBy log log_too told → AreShownAs pair one two told
      alike_so are (Illegal of at) is = absurd is
      alike_so are (Absent of) is = absurd is
      alike_so are Other is = absurd is
      alike_so are (Events at) is = (
        can,
        are,
        subst (λ (events : List E). DifferFirstAt events two.events at) (sym its.events_are)
            (subst (λ (events : List E). DifferFirstAt (events_in log) events at) (sym other_its.events_are) is),
      )
      alike_so are (Same count) is = (
        can,
        are,
        its.events_are ∙ is.0 ∙ sym other_its.events_are,
        is.1 ∙ ap (λ (replies : List R). length replies) (sym its.replies_are),
      )

      -- they are one, and it is for the events to show
      pub shown_alike : AreToldApart pair (option_map application_of app) (option_map application_of other) None → (told : Compared)
          → IsShownBy log log_too told → AreShownAs pair one two told
      shown_alike are told is = alike_so (told_so None are) told is

-- ---- a group that isn't there

pub absent_in_one : (pair : Pair) (uuid : List ℕ) → app_of (core_of pair pair.one) uuid ≡ None → CanBeBoth pair
    → IsComparedAs pair (Group uuid) (Absent 1)
absent_in_one pair uuid none can = (can, inl (refl, ap (λ (o : Option Application). option_and_then if_shared o) none))

pub absent_in_two : (pair : Pair) (uuid : List ℕ) (app : Application) → app_of (core_of pair pair.one) uuid ≡ Some app
    → app_of (core_of pair pair.two) uuid ≡ None → CanBeBoth pair
    → IsComparedAs pair (Group uuid) (Absent (if is_single app then 2 else 1))
absent_in_two pair uuid app there none can = (can, by (is_single app) refl)
  where
    by : (single : Bool) → is_single app ≡ single
        → IsAbsentIn (option_and_then if_shared (app_of (core_of pair pair.one) uuid)) (option_and_then if_shared (app_of (core_of pair pair.two) uuid))
        (if single then 2 else 1)
    by true is = inr (
      refl,
      subst IsSome (sym (ap (λ (o : Option Application). option_and_then if_shared o) there
          ∙ ap (λ (b : Bool). let o : Option Application = if b then Some app else None in o) is)) refl,
      ap (λ (o : Option Application). option_and_then if_shared o) none,
    )
    by false is = inl (
      refl,
      ap (λ (o : Option Application). option_and_then if_shared o) there
          ∙ ap (λ (b : Bool). let o : Option Application = if b then Some app else None in o) is,
    )

-- ---- a comparison that was made as the logs were read

pub shown_by : {E R : Type 0} (code : Comparison E) (one two : List (E × Option R)) (told : Compared) → Compares First code one two
    → ShowsEvents (events_in one) (events_in two) code.replies told → IsShownBy one two told
shown_by code one two (Illegal of at) compares is = absurd is
shown_by code one two (Absent of) compares is = absurd is
shown_by code one two Other compares is = absurd is
shown_by code one two (Events at) compares is = is
shown_by code one two (Same count) compares is = (is.0, is.1 ∙ compares.replies)

-- ---- applications

not_true : IsTrue false → ⊥
not_true is = absurd cc

-- two applications that aren't one under one key
pub differ_so : (one_key are : Bool) (A K : Type 0) → (IsTrue one_key ↔ K) → (IsTrue are ↔ (A × IsTrue one_key)) → are ≡ false
    → (A → ⊥) ⊎ (K → ⊥)
differ_so one_key true A K keys both is = absurd cc
differ_so true false A K keys both is = inl (λ a. absurd (not_true (both.1 (a, refl))))
differ_so false false A K keys both is = inr (λ k. not_true (keys.1 k))

-- ---- replies

pub told_same : (pair : Pair) (subject : Subject) (result : Result Compared NoMemory) → IfOk result (IsComparedAs pair subject)
    → IfOk result (HaveSameReplies pair subject)
told_same pair subject (Ok told) is = same_gives_same_replies pair subject told is
told_same pair subject (Err error) is = tt
