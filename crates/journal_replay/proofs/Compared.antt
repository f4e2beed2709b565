-- Lists that are compared element by element, and the last of one.
use Rattle.std.proofs.Common.{◌≡◌, ◌+◌, ◌-◌, List, [], ◌∷◌, ◌++◌, length, Some, None, refl, ap, ◌∙◌, arith, length-append}
use Rattle.std.specs.Prelude.{slice_get}
use Rattle.event_journal.specs.declared.event.Event.{Event}

last_at : (before : List Event) (event : Event) → slice_get (before ++ event ∷ []) (length before) ≡ Some event
last_at [] event = refl
last_at (first ∷ before) event = last_at before event

pub last_is : (events before : List Event) (event found : Event) → events ≡ before ++ event ∷ []
    → Some found ≡ slice_get events (length events - 1) → found ≡ event
last_is events before event found is there =
    let long : length events ≡ length before + 1 = ap (λ (es : List Event). length es) is ∙ length-append before (event ∷ []) in
    let place : length events - 1 ≡ length before = omega (arith, long) in
    let both : Some found ≡ Some event = there ∙ ap (slice_get events) place ∙ ap (λ (es : List Event). slice_get es (length before)) is ∙ last_at before event in
    cc

pub not_none : (events before : List Event) (event : Event) → events ≡ before ++ event ∷ [] → None ≡ slice_get events (length events - 1) → ⊥
not_none events before event is there =
    let long : length events ≡ length before + 1 = ap (λ (es : List Event). length es) is ∙ length-append before (event ∷ []) in
    let place : length events - 1 ≡ length before = omega (arith, long) in
    let both : None ≡ Some event = there ∙ ap (slice_get events) place ∙ ap (λ (es : List Event). slice_get es (length before)) is ∙ last_at before event in
    absurd cc
