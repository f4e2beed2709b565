-- The instance as a call gives it back.
use Rattle.std.proofs.Common.{◌≡◌, ℕ, ◌==◌, Bool, true, false, Option, Some, None, refl, sym, ap, subst, ◌∙◌, arith}
use Rattle.std.specs.Prelude.{if◌then◌else◌, is_some}
use Rattle.std.specs.Option.{option_and_then, option_map, option_map_or}
use Rattle.std.proofs.lemmas.Bool.Decides.{nat_tests}
use Rattle.base.specs.NumberMap.{NumberMap}
use Rattle.group_model.specs.Group.{Group, GroupSession, instance_at, instance_back}
use Rattle.kernel_model.specs.Kernel.{Instance}
use Rattle.group_solo.specs.Ending.{with_instance_back}
use Rattle.group_solo.specs.Found.{found_at}
use Rattle.group_solo.specs.Standing.{without_calls}
use Rattle.group_solo.specs.declared.found.Found.{Found}
use Rattle.group_solo.specs.declared.group.GroupSolo.{GroupSolo}

-- what is at a number
abbrev at_number : Option (ℕ × Instance) → ℕ → Option Instance
at_number found number = option_and_then (λ (there : ℕ × Instance). if there.0 == number then Some there.1 else None) found

-- once it was changed and put back, it is there, or gone
abbrev changed_back : NumberMap GroupSession → Bool → (Instance → Instance) → Option (ℕ × Instance) → Option (ℕ × Instance)
changed_back sessions is_last change found =
    option_and_then (λ (there : ℕ × Instance). instance_back sessions is_last there.0 there.1)
    (option_map (λ (there : ℕ × Instance). (there.0, change there.1)) found)

-- it is given back by its number
abbrev given_back_at : NumberMap GroupSession → ℕ → Bool → (Instance → Instance) → Option (ℕ × Instance) → Option (ℕ × Instance)
given_back_at sessions number is_last change found =
    option_map_or (λ instance. instance_back sessions is_last number (change instance)) (at_number found number) found

same_number : (a b : ℕ) → (a == b) ≡ true → a ≡ b
same_number a b e = grind (arith, nat_tests)

back_there : (sessions : NumberMap GroupSession) (number : ℕ) (is_last : Bool) (change : Instance → Instance) (found : Option (ℕ × Instance)) →
    is_some (option_map found_at (at_number found number)) ≡ true →
    changed_back sessions is_last change found ≡ given_back_at sessions number is_last change found
back_there sessions number is_last change None there = absurd cc
back_there sessions number is_last change (Some kept) there = by (kept.0 == number) refl there
  where
    by : (b : Bool) → (kept.0 == number) ≡ b → is_some (option_map found_at (if b then Some kept.1 else None)) ≡ true →
        instance_back sessions is_last kept.0 (change kept.1)
        ≡ option_map_or (λ instance. instance_back sessions is_last number (change instance)) (if kept.0 == number then Some kept.1 else None) (Some kept)
    by false e is = absurd cc
    by true e is =
        ap (λ (n : ℕ). instance_back sessions is_last n (change kept.1)) (same_number kept.0 number e)
        ∙ ap (λ (b : Bool). option_map_or (λ instance. instance_back sessions is_last number (change instance)) (if b then Some kept.1 else None) (Some kept)) (sym e)

back_nowhere : (sessions : NumberMap GroupSession) (number : ℕ) (is_last : Bool) (change : Instance → Instance) (found : Option (ℕ × Instance)) →
    is_some (option_map found_at (at_number found number)) ≡ false → found ≡ given_back_at sessions number is_last change found
back_nowhere sessions number is_last change found none = by (at_number found number) refl none
  where
    by : (o : Option Instance) → at_number found number ≡ o → is_some (option_map found_at o) ≡ false →
        found ≡ given_back_at sessions number is_last change found
    by None e is = ap (λ o. option_map_or (λ instance. instance_back sessions is_last number (change instance)) o found) (sym e)
    by (Some instance) e is = absurd cc

-- all but the calls, with another instance
with_other : (s new : GroupSolo) → new ≡ record s { instance = new.instance } →
    without_calls new ≡ record (without_calls s) { instance = (without_calls new).instance }
with_other s new stays =
    subst (λ (n : GroupSolo). without_calls n ≡ record (without_calls s) { instance = (without_calls n).instance }) (sym stays) refl

pub given_there : (s put removed : GroupSolo) (number : ℕ) (is_last : Bool) (change : Instance → Instance) (found : Option Found) →
    found ≡ option_map found_at (instance_at (without_calls s) number) → is_some found ≡ true →
    put ≡ record s { instance = put.instance } → removed ≡ record put { instance = removed.instance } →
    (without_calls put).instance ≡ option_map (λ (there : ℕ × Instance). (there.0, change there.1)) (without_calls s).instance →
    (without_calls removed).instance ≡ option_and_then (λ (there : ℕ × Instance). instance_back (without_calls put).sessions is_last there.0 there.1) (without_calls put).instance →
    without_calls removed ≡ with_instance_back (without_calls s) number is_last change
given_there s put removed number is_last change found says is stays still changed goes =
    let sessions = (without_calls s).sessions in
    let first = with_other s put stays in
    with_other put removed still
    ∙ ap (λ (base : Group). record base { instance = (without_calls removed).instance }) first
    ∙ ap (λ o. record (without_calls s) { instance = o })
    (goes
    ∙ ap (λ (base : Group). option_and_then (λ (there : ℕ × Instance). instance_back base.sessions is_last there.0 there.1) (without_calls put).instance) first
    ∙ ap (option_and_then (λ (there : ℕ × Instance). instance_back sessions is_last there.0 there.1)) changed
    ∙ back_there sessions number is_last change (without_calls s).instance (ap is_some (sym says) ∙ is))

pub given_nowhere : (s : GroupSolo) (number : ℕ) (is_last : Bool) (change : Instance → Instance) (found : Option Found) →
    found ≡ option_map found_at (instance_at (without_calls s) number) → is_some found ≡ false →
    without_calls s ≡ with_instance_back (without_calls s) number is_last change
given_nowhere s number is_last change found says is =
    ap (λ o. record (without_calls s) { instance = o })
    (back_nowhere (without_calls s).sessions number is_last change (without_calls s).instance (ap is_some (sym says) ∙ is))
