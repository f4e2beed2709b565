-- A call's slot pins the cookie that names its argument.
use Rattle.std.proofs.Common.{◌≡◌, ℕ, Bool, true, false, not, ◌||◌, ◌==◌, List, [], ◌∷◌, Option, Some, None, refl, ◌∙◌, arith, inl, inr, nat_eq}
use Rattle.std.specs.Prelude.{is_none}
use Rattle.std.specs.List.{list_any}
use Rattle.std.specs.Option.{option_eq}
use Rattle.std.proofs.lemmas.Bool.{cases_Bool, eq-eqb, eqb-true}
use Rattle.std.proofs.lemmas.Bool.Decides.{nat_tests}
use Rattle.std.proofs.lemmas.List.Folds.{list_any-append}
use Rattle.kernel_model.specs.Located.{pins_with}
use Rattle.shm_registry.specs.Registered.{is_pin, lowest_slot, with_pin}
use Rattle.shm_registry.specs.declared.pin.Pin.{Pin}

-- the pin is on the cookie
abbrev is_on : ℕ → Pin → Bool
is_on cookie pin = pin.cookie == cookie

some_lowest : (cookie : ℕ) (pins : List Pin) → not (is_none (lowest_slot pins cookie)) ≡ list_any (is_on cookie) pins
some_lowest cookie [] = refl
some_lowest cookie (pin ∷ pins) =
    elim (cases_Bool (pin.cookie == cookie)) [
      | inl on ↦ rw on refl
      | inr off ↦ rw off (some_lowest cookie pins)
    ]

or_true : (a b : Bool) → b ≡ true → (a || b) ≡ true
or_true true b e = refl
or_true false b e = e

-- a slot's pin on it is one
among : (cookie slot : ℕ) (pins : List Pin) → list_any (is_pin cookie slot) pins ≡ true → list_any (is_on cookie) pins ≡ true
among cookie slot [] there = absurd cc
among cookie slot (pin ∷ pins) there =
    elim (cases_Bool (is_pin cookie slot pin)) [
      | inl this ↦ let on : (pin.cookie == cookie) ≡ true = grind (arith, nat_tests) in rw on refl
      | inr differs ↦ or_true (is_on cookie pin) (list_any (is_on cookie) pins) (among cookie slot pins (rw differs at there))
    ]

with_one : (cookie slot : ℕ) (pins : List Pin) → list_any (is_on cookie) (with_pin pins cookie slot) ≡ true
with_one cookie slot pins =
    let same : (cookie == cookie) ≡ true = eq-eqb cookie cookie refl in
    elim (cases_Bool (list_any (is_pin cookie slot) pins)) [
      | inl there ↦ rw there (among cookie slot pins there)
      | inr fresh ↦
          rw fresh
          (list_any-append (is_on cookie) pins (record { cookie = cookie; slot = slot } ∷ [])
          ∙ or_true (list_any (is_on cookie) pins) _ (rw same refl))
    ]

pub pinned_as_argument : (named : Option ℕ) (pins : List Pin) (slot cookie : ℕ) → option_eq nat_eq named (Some cookie) ≡ true →
    not (is_none (lowest_slot (pins_with named pins slot) cookie)) ≡ true
pinned_as_argument None pins slot cookie same = absurd cc
pinned_as_argument (Some other) pins slot cookie same =
    let is : other ≡ cookie = eqb-true other cookie same in
    rw is (some_lowest cookie (with_pin pins cookie slot) ∙ with_one cookie slot pins)
