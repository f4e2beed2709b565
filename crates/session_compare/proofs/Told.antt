-- What is shown of two journals, told in other words: where each event has one word and none is lost, they differ at the same
-- place.
use Rattle.std.proofs.Common.{◌≡◌, ℕ, List, [], ◌∷◌, Option, Some, refl, ap, sym, subst, ◌∙◌, length}
use Rattle.std.proofs.lemmas.List.{take-map}
use Rattle.std.proofs.lemmas.Option.{slice_get-map}
use Rattle.std.specs.Prelude.{filter_map, map, take}
use Rattle.std.specs.List.{cons_option}
use Rattle.std.specs.Option.{option_map}
use Rattle.compare_model.specs.Comparing.{AreOfOne, AreOfTwo, AreShownAs, DifferFirstAt, IsAbsentIn, Pair, Shown}
use Rattle.compare_model.specs.declared.compared.Compared.{Compared}
use Rattle.compare_model.specs.declared.compared.Compared.TheVariants.{Absent, Events, Illegal, Other, Same}
use Rattle.kernel_model.specs.Application.{Application}

-- the word of an event gives it back
abbrev pub GivesBack : {E F : Type 0} → (F → E) → (E → Option F) → Type 0
GivesBack {E} {F} word back = (event : F) → back (word event) ≡ Some event

-- what is shown of a realm is what is shown of somebody, word by word
pub record IsToldBy {E R F S : Type 0} (word : F → E) (full : Shown E R) (own : Shown F S) : Type 0 where
  pub app : full.app ≡ own.app
  pub events : full.events ≡ map word own.events
  pub replies : length full.replies ≡ length own.replies

module _ {E F : Type 0} (word : F → E) (back : E → Option F) (gives : GivesBack word back) where
  given_back : (events : List F) → filter_map back (map word events) ≡ events
  given_back [] = refl
  given_back (event ∷ events) =
      ap (λ (o : Option F). cons_option o (filter_map back (map word events))) (gives event)
      ∙ ap (λ (rest : List F). event ∷ rest) (given_back events)

  same_words : (one two : List F) → map word one ≡ map word two → one ≡ two
  same_words one two same = sym (given_back one) ∙ ap (filter_map back) same ∙ given_back two

  differ_so : (one two : List F) (at : ℕ) → DifferFirstAt (map word one) (map word two) at → DifferFirstAt one two at
  differ_so one two at differ = record {
    same_before = same_words (take at one) (take at two)
        (sym (take-map word at one) ∙ differ.same_before ∙ take-map word at two);
    differ = λ same. differ.differ (slice_get-map word one at ∙ ap (option_map word) same ∙ sym (slice_get-map word two at));
  }

  module _ {R S : Type 0} (pair : Pair) (full full_too : Shown E R) (own own_too : Shown F S) (told : IsToldBy word full own)
      (told_too : IsToldBy word full_too own_too) where
    of_apps : (P : Option Application → Option Application → Type 0) → P full.app full_too.app → P own.app own_too.app
    of_apps P is = subst (λ (app : Option Application). P app own_too.app) told.app
        (subst (λ (app : Option Application). P full.app app) told_too.app is)

    pub shown_so : (compared : Compared) → AreShownAs pair full full_too compared → AreShownAs pair own own_too compared
    shown_so (Illegal of at) is = is
    shown_so (Absent of) is = (is.0, of_apps (λ app other. IsAbsentIn app other of) is.1)
    shown_so Other is = (is.0, of_apps (AreOfTwo pair) is.1)
    shown_so (Events at) is = (
      is.0,
      of_apps (AreOfOne pair) is.1,
      differ_so own.events own_too.events at
          (subst (λ (events : List E). DifferFirstAt (map word own.events) events at) told_too.events
          (subst (λ (events : List E). DifferFirstAt events full_too.events at) told.events is.2)),
    )
    shown_so (Same count) is = (
      is.0,
      of_apps (AreOfOne pair) is.1,
      same_words own.events own_too.events (sym told.events ∙ is.2 ∙ told_too.events),
      is.3 ∙ told.replies,
    )
