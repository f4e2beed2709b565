-- The calls of a desk by what makes them: steps that signal, and the exits of a history. In lists of calls, and of values
-- that were signalled, the last one stands first.
use Rattle.std.specs.Prelude.{ℕ, List, [], ◌∷◌, ◌++◌}
use Rattle.std.specs.Option.{option_map_or}
use Rattle.event_journal.specs.declared.event.Event.{Event}
use Rattle.event_journal.specs.declared.event.Event.TheVariants.{Entry, Exit}
use Rattle.kernel_model.specs.Application.{Booted}
use Rattle.kernel_model.specs.Argument.{reg}
use Rattle.notif.specs.History.{DeskCall, Signal}
use Rattle.notify_text.specs.Steps.{Signals, Step, Takes}
use Rattle.notify_play.specs.Duty.{duty_of, last_entry}
use Rattle.notify_play.specs.NotifyPlay.{Drivers, NotifyPlay, after_step}
use Rattle.notify_play.specs.Told.{with_duty}

-- ---- of these calls

-- the values of the signals
abbrev pub signals_among : List DeskCall → List ℕ
signals_among [] = []
signals_among (Signal value ∷ calls) = value ∷ signals_among calls
signals_among (call ∷ calls) = signals_among calls

-- the calls that are no signals
abbrev pub others_among : List DeskCall → List DeskCall
others_among [] = []
others_among (Signal value ∷ calls) = others_among calls
others_among (call ∷ calls) = call ∷ others_among calls

-- ---- what makes them

-- the values that these steps signal
abbrev pub signalled : List Step → List ℕ
signalled [] = []
signalled (Takes i ∷ steps) = signalled steps
signalled (Signals value ∷ steps) = signalled steps ++ value ∷ []

-- of these steps those that are taken: none behind an entry that was refused
abbrev pub taken : Booted → Drivers → List Step → NotifyPlay → List Step
taken boot drivers [] before = []
taken boot drivers (first ∷ steps) before =
    option_map_or (λ more. [])
    before.play.refused
    (first ∷ option_map_or (λ next. taken boot drivers steps next) (after_step boot drivers first before) [])

-- what the exits among these events ask of the desk, where those came before; each by its processor's last entry, and by the
-- kernel's answer in a0
abbrev pub asked : List Event → List Event → List DeskCall
asked before [] = []
asked before (Entry came given steps reads ∷ events) = asked (before ++ Entry came given steps reads ∷ []) events
asked before (Exit went told ∷ events) =
    asked (before ++ Exit went told ∷ []) events ++ with_duty (duty_of (last_entry before went) (reg told.a 0)) []
