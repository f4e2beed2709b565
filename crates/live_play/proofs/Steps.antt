-- The steps of a trace with signals that has one item or one signal more.
use Rattle.std.proofs.Common.{◌≡◌, ℕ, ◌+◌, ◌≤◌, Bool, true, false, cond, eqb, List, [], ◌∷◌, ◌++◌, length, map, filter, Option, Some, None, refl, sym, ap, ◌∙◌, arith, append_assoc, append-nil, eq-eqb}
use Rattle.std.specs.Option.{option_and_then}
use Rattle.std.proofs.lemmas.Bool.{eqb-true}
use Rattle.kernel_model.specs.Application.{Booted}
use Rattle.notify_play.specs.NotifyPlay.{Drivers, NotifyPlay, after_step, after_steps, unless_refused}
use Rattle.notify_text.specs.Steps.{Signals, Step, Takes, signals_at, steps_from}
use Rattle.notify_text.specs.declared.notify_trace.Signal.{Signal}
use Rattle.trace_text.specs.declared.item.Item.{Item}

-- each signal stands behind at most so many items
abbrev pub AreWithin : ℕ → List Signal → Type 0
AreWithin most [] = Unit {0}
AreWithin most (signal ∷ signals) = (signal.at ≤ most) × AreWithin most signals

pub within-more : (few many : ℕ) (signals : List Signal) → few ≤ many → AreWithin few signals → AreWithin many signals
within-more few many [] le within = tt
within-more few many (signal ∷ signals) le within = (omega (arith, le, within.0), within-more few many signals le within.1)

pub within-push : (most value : ℕ) (signals : List Signal) → AreWithin most signals
    → AreWithin most (signals ++ record { at = most; value = value } ∷ [])
within-push most value [] within = (omega arith, tt)
within-push most value (signal ∷ signals) within = (within.0, within-push most value signals within.1)

-- ---- an item more

other_place : (at place : ℕ) → (at ≡ place → ⊥) → eqb at place ≡ false
other_place at place apart = by (eqb at place) refl
  where
    by : (b : Bool) → eqb at place ≡ b → eqb at place ≡ false
    by true e = absurd (apart (eqb-true at place e))
    by false e = e

-- none stands further behind
none_behind : (at : ℕ) (signals : List Signal) → AreWithin at signals → signals_at (at + 1) signals ≡ []
none_behind at [] within = refl
none_behind at (signal ∷ signals) within =
    ap (λ (b : Bool). map (λ (s : Signal). Signals s.value) (cond b (signal ∷ filter (λ (s : Signal). eqb s.at (at + 1)) signals) (filter (λ (s : Signal). eqb s.at (at + 1)) signals)))
    (other_place signal.at (at + 1) (λ same. omega (arith, within.0, same)))
    ∙ none_behind at signals within.1

pub steps-item : (at : ℕ) (items : List Item) (i : Item) (signals : List Signal) → AreWithin (at + length items) signals
    → steps_from at (items ++ i ∷ []) signals ≡ steps_from at items signals ++ Takes i ∷ []
steps-item at [] i signals within =
    let here : AreWithin at signals = within-more (at + 0) at signals (omega arith) within in
    ap (λ (rest : List Step). signals_at at signals ++ Takes i ∷ rest) (none_behind at signals here)
steps-item at (j ∷ items) i signals within =
    let there : AreWithin ((at + 1) + length items) signals =
    within-more (at + length (j ∷ items)) ((at + 1) + length items) signals (omega arith) within in
    ap (λ (rest : List Step). signals_at at signals ++ Takes j ∷ rest) (steps-item (at + 1) items i signals there)
    ∙ sym (append_assoc (signals_at at signals) (Takes j ∷ steps_from (at + 1) items signals) (Takes i ∷ []))

-- ---- a signal more

push_by : (at : ℕ) (signal last : Signal) (signals : List Signal) (more : List Step) (there : Bool)
    → signals_at at (signals ++ last ∷ []) ≡ signals_at at signals ++ more
    → map (λ (s : Signal). Signals s.value) (cond there
    (signal ∷ filter (λ (s : Signal). eqb s.at at) (signals ++ last ∷ []))
    (filter (λ (s : Signal). eqb s.at at) (signals ++ last ∷ [])))
    ≡ map (λ (s : Signal). Signals s.value) (cond there
    (signal ∷ filter (λ (s : Signal). eqb s.at at) signals)
    (filter (λ (s : Signal). eqb s.at at) signals)) ++ more
push_by at signal last signals more true e = ap (λ (l : List Step). Signals signal.value ∷ l) e
push_by at signal last signals more false e = e

at-push : (at : ℕ) (signals : List Signal) (last : Signal) (here : Bool) → eqb last.at at ≡ here
    → signals_at at (signals ++ last ∷ []) ≡ signals_at at signals ++ cond here (Signals last.value ∷ []) []
at-push at [] last true is = ap (λ (b : Bool). map (λ (s : Signal). Signals s.value) (cond b (last ∷ []) [])) is
at-push at [] last false is = ap (λ (b : Bool). map (λ (s : Signal). Signals s.value) (cond b (last ∷ []) [])) is
at-push at (signal ∷ signals) last here is =
    push_by at signal last signals (cond here (Signals last.value ∷ []) []) (eqb signal.at at) (at-push at signals last here is)

pub steps-signal : (at value : ℕ) (items : List Item) (signals : List Signal)
    → steps_from at items (signals ++ record { at = at + length items; value = value } ∷ [])
    ≡ steps_from at items signals ++ Signals value ∷ []
steps-signal at value [] signals =
    at-push at signals (record { at = at + 0; value = value }) true
    (ap (λ n. eqb n at) (omega arith) ∙ eq-eqb at at refl)
steps-signal at value (j ∷ items) signals =
    let last : Signal = record { at = at + length (j ∷ items); value = value } in
    let apart : eqb last.at at ≡ false = other_place last.at at (λ same. omega (arith, same)) in
    let none : signals_at at (signals ++ last ∷ []) ≡ signals_at at signals =
    at-push at signals last false apart ∙ append-nil (signals_at at signals) in
    let moved : last ≡ record { at = (at + 1) + length items; value = value } =
    ap (λ n. record { at = n; value = value }) (omega arith) in
    ap (λ (front : List Step). front ++ Takes j ∷ steps_from (at + 1) items (signals ++ last ∷ [])) none
    ∙ ap (λ (l : Signal). signals_at at signals ++ Takes j ∷ steps_from (at + 1) items (signals ++ l ∷ [])) moved
    ∙ ap (λ (rest : List Step). signals_at at signals ++ Takes j ∷ rest) (steps-signal (at + 1) value items signals)
    ∙ sym (append_assoc (signals_at at signals) (Takes j ∷ steps_from (at + 1) items signals) (Signals value ∷ []))

-- ---- plays of more steps

append_by : (boot : Booted) (drivers : Drivers) (steps more : List Step) (o : Option NotifyPlay)
    → ((next : NotifyPlay) → after_steps boot drivers (steps ++ more) next
    ≡ option_and_then (λ n. after_steps boot drivers more n) (after_steps boot drivers steps next))
    → option_and_then (λ next. after_steps boot drivers (steps ++ more) next) o
    ≡ option_and_then (λ next. after_steps boot drivers more next)
    (option_and_then (λ next. after_steps boot drivers steps next) o)
append_by boot drivers steps more None goes = refl
append_by boot drivers steps more (Some next) goes = goes next

-- a play goes on from where the first steps end
pub steps-append : (boot : Booted) (drivers : Drivers) (steps more : List Step) (told : NotifyPlay)
    → after_steps boot drivers (steps ++ more) told
    ≡ option_and_then (λ next. after_steps boot drivers more next) (after_steps boot drivers steps told)
steps-append boot drivers [] more told = refl
steps-append boot drivers (first ∷ steps) more told =
    append_by boot drivers steps more (unless_refused (after_step boot drivers first) told)
    (λ next. steps-append boot drivers steps more next)

-- and by one step
pub steps-one : (boot : Booted) (drivers : Drivers) (steps : List Step) (last : Step) (told : NotifyPlay)
    → after_steps boot drivers (steps ++ last ∷ []) told
    ≡ option_and_then (unless_refused (after_step boot drivers last)) (after_steps boot drivers steps told)
steps-one boot drivers steps last told =
    steps-append boot drivers steps (last ∷ []) told ∙ by (after_steps boot drivers steps told)
  where
    alone : (o : Option NotifyPlay) → option_and_then (λ next. Some next) o ≡ o
    alone None = refl
    alone (Some next) = refl

    by : (o : Option NotifyPlay)
        → option_and_then (λ next. after_steps boot drivers (last ∷ []) next) o
        ≡ option_and_then (unless_refused (after_step boot drivers last)) o
    by None = refl
    by (Some next) = alone (unless_refused (after_step boot drivers last) next)
