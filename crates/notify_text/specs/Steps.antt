-- The steps of a trace with signals: its items and its signals, in the order in which they come. This project's own.
use Rattle.std.specs.Prelude.{ℕ, ◌+◌, ◌==◌, List, [], ◌∷◌, ◌++◌, map, filter}
use Rattle.notify_text.specs.declared.notify_trace.NotifyTrace.{NotifyTrace}
use Rattle.notify_text.specs.declared.notify_trace.Signal.{Signal}
use Rattle.trace_text.specs.declared.item.Item.{Item}

pub data Step : Type 0 where
  -- an item of a processor
  Takes : Item → Step
  -- the hardware signals this value
  Signals : (value : ℕ) → Step

-- the signals that stand behind so many items, in their order
abbrev pub signals_at : ℕ → List Signal → List Step
signals_at at signals = map (λ signal. Signals signal.value) (filter (λ signal. signal.at == at) signals)

-- these items, of which the first has so many before it, each behind the signals that stand there
abbrev pub steps_from : ℕ → List Item → List Signal → List Step
steps_from at [] signals = signals_at at signals
steps_from at (item ∷ items) signals = signals_at at signals ++ Takes item ∷ steps_from (at + 1) items signals

-- all of a trace
abbrev pub steps_of : NotifyTrace → List Step
steps_of told = steps_from 0 told.trace.items told.signals
