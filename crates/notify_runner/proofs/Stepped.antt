-- The steps of a trace, item by item: the signals in front of one, that item, and the rest.
use Rattle.std.proofs.Common.{◌≡◌, ℕ, zero, suc, ◌+◌, ◌<◌, ◌≤◌, Bool, true, false, List, [], ◌∷◌, ◌++◌, get_or, length, map, refl, ap, subst, sym, ◌∙◌, arith}
use Rattle.std.specs.Prelude.{◌==◌, filter, if◌then◌else◌}
use Rattle.std.specs.List.{AllByRecursion}
use Rattle.std.proofs.lemmas.Bool.Decides.{Decides-eqb}
use Rattle.kernel_model.proofs.SoundSlots.{by_number}
use Rattle.notify_player.specs.Signalling.{behind_at, front_at}
use Rattle.notify_player.proofs.Stepping.{taken_by}
use Rattle.notify_player.proofs.Signals.{behind-elsewhere, behind-there, front-elsewhere, front-there}
use Rattle.notify_text.specs.Sound.{AreInOrder, IsSoundSignal}
use Rattle.notify_text.specs.Steps.{Signals, Step, Takes, signals_at, steps_from}
use Rattle.notify_text.specs.declared.notify_trace.Signal.{Signal}
use Rattle.trace_text.specs.declared.item.Item.{Item}

-- each signal stands behind at least so many items, and none behind fewer than an earlier one
abbrev pub AreBehind : ℕ → List Signal → Type 0
AreBehind at [] = Unit {0}
AreBehind at (signal ∷ signals) = (at ≤ signal.at) × AreBehind signal.at signals

-- ---- signals at one place

weaker : (at more : ℕ) (signals : List Signal) → at ≤ more → AreBehind more signals → AreBehind at signals
weaker at more [] le behind = tt
weaker at more (signal ∷ signals) le behind = let there = behind.0 in (omega (arith, le, there), behind.1)

-- a signal that stands there is the first of those there
at-there : (at : ℕ) (signal : Signal) (signals : List Signal) → signal.at ≡ at
    → signals_at at (signal ∷ signals) ≡ Signals signal.value ∷ signals_at at signals
at-there at signal signals is =
    ap (λ (b : Bool). map (λ (s : Signal). Signals s.value)
    (if b then signal ∷ filter (λ (s : Signal). s.at == at) signals else filter (λ (s : Signal). s.at == at) signals))
    ((Decides-eqb signal.at at).1 is)

-- one that stands elsewhere is none of them
at-elsewhere : (at : ℕ) (signal : Signal) (signals : List Signal) → (signal.at ≡ at → ⊥)
    → signals_at at (signal ∷ signals) ≡ signals_at at signals
at-elsewhere at signal signals apart = by (signal.at == at) refl
  where
    by : (here : Bool) → (signal.at == at) ≡ here
        → map (λ (s : Signal). Signals s.value)
        (if here then signal ∷ filter (λ (s : Signal). s.at == at) signals else filter (λ (s : Signal). s.at == at) signals)
        ≡ map (λ (s : Signal). Signals s.value) (filter (λ (s : Signal). s.at == at) signals)
    by true e = absurd (apart ((Decides-eqb signal.at at).0 e))
    by false e = refl

-- further ones aren't there
none-there : (at more : ℕ) (signals : List Signal) → at < more → AreBehind more signals → signals_at at signals ≡ []
none-there at more [] lt behind = refl
none-there at more (signal ∷ signals) lt behind =
    let there = behind.0 in
    at-elsewhere at signal signals (λ same. omega (arith, same, there, lt))
    ∙ none-there at signal.at signals (omega (arith, there, lt)) behind.1

-- those that stand there are those at the front
pub signals-front : (at : ℕ) (signals : List Signal) → AreBehind at signals
    → signals_at at signals ≡ taken_by (front_at at signals)
signals-front at [] behind = refl
signals-front at (signal ∷ signals) behind =
    by_number signal.at at
    (λ same.
    at-there at signal signals same
    ∙ ap (λ (l : List Step). Signals signal.value ∷ l)
    (signals-front at signals (weaker at signal.at signals (omega (arith, same)) behind.1))
    ∙ sym (ap taken_by (front-there at signal signals same)))
    (λ apart.
    let there = behind.0 in
    at-elsewhere at signal signals apart
    ∙ none-there at signal.at signals (omega (arith, there, apart)) behind.1
    ∙ sym (ap taken_by (front-elsewhere at signal signals apart)))

-- those behind them stand behind one item more
pub behind-next : (at : ℕ) (signals : List Signal) → AreBehind at signals → AreBehind (at + 1) (behind_at at signals)
behind-next at [] behind = tt
behind-next at (signal ∷ signals) behind =
    by_number signal.at at
    (λ same.
    subst (AreBehind (at + 1)) (sym (behind-there at signal signals same))
    (behind-next at signals (weaker at signal.at signals (omega (arith, same)) behind.1)))
    (λ apart.
    let there = behind.0 in
    subst (AreBehind (at + 1)) (sym (behind-elsewhere at signal signals apart)) (omega (arith, there, apart), behind.1))

-- signals that stand behind fewer items change no later step
steps-drop : (at : ℕ) (items : List Item) (signal : Signal) (signals : List Signal) → signal.at < at
    → steps_from at items (signal ∷ signals) ≡ steps_from at items signals
steps-drop at [] signal signals lt = at-elsewhere at signal signals (λ same. omega (arith, same, lt))
steps-drop at (item ∷ items) signal signals lt =
    ap (λ (l : List Step). l ++ Takes item ∷ steps_from (at + 1) items (signal ∷ signals))
    (at-elsewhere at signal signals (λ same. omega (arith, same, lt)))
    ∙ ap (λ (l : List Step). signals_at at signals ++ Takes item ∷ l)
    (steps-drop (at + 1) items signal signals (omega (arith, lt)))

-- nor do those that stand behind so many
steps-next : (at : ℕ) (items : List Item) (signals : List Signal)
    → steps_from (at + 1) items signals ≡ steps_from (at + 1) items (behind_at at signals)
steps-next at items [] = refl
steps-next at items (signal ∷ signals) =
    by_number signal.at at
    (λ same.
    steps-drop (at + 1) items signal signals (omega (arith, same))
    ∙ steps-next at items signals
    ∙ ap (steps_from (at + 1) items) (sym (behind-there at signal signals same)))
    (λ apart. ap (steps_from (at + 1) items) (sym (behind-elsewhere at signal signals apart)))

-- the signals in front of an item, the item, and the rest
pub steps-first : (at : ℕ) (item : Item) (items : List Item) (signals : List Signal) → AreBehind at signals
    → steps_from at (item ∷ items) signals
    ≡ taken_by (front_at at signals) ++ Takes item ∷ steps_from (at + 1) items (behind_at at signals)
steps-first at item items signals behind =
    ap (λ (l : List Step). l ++ Takes item ∷ steps_from (at + 1) items signals) (signals-front at signals behind)
    ∙ ap (λ (l : List Step). taken_by (front_at at signals) ++ Takes item ∷ l) (steps-next at items signals)

-- ---- signals of a text

-- those in their order stand so
pub are-behind : (at : ℕ) (signals : List Signal)
    → ((k : ℕ) (d : Signal) → k < length signals → at ≤ (get_or signals k d).at) → AreInOrder signals
    → AreBehind at signals
are-behind at [] each order = tt
are-behind at (signal ∷ signals) each order = (
  each zero signal (omega arith),
  are-behind signal.at signals (λ k d lt. order zero (suc k) d (omega arith) (omega (arith, lt)))
      (λ i j d lt within. order (suc i) (suc j) d (omega (arith, lt)) (omega (arith, within))),
)

-- those left are within the limits of all
pub sound-behind : (items at : ℕ) (signals : List Signal) → AllByRecursion (IsSoundSignal items) signals
    → AllByRecursion (IsSoundSignal items) (behind_at at signals)
sound-behind items at [] sound = tt
sound-behind items at (signal ∷ signals) sound =
    by_number signal.at at
    (λ same.
    subst (AllByRecursion (IsSoundSignal items)) (sym (behind-there at signal signals same))
    (sound-behind items at signals sound.1))
    (λ apart.
    subst (AllByRecursion (IsSoundSignal items)) (sym (behind-elsewhere at signal signals apart)) sound)
