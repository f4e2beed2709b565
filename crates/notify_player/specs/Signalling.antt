-- The signals behind so many items of a trace, and what they make of a play.
use Rattle.std.specs.Prelude.{ℕ, ◌==◌, if◌then◌else◌, List, [], ◌∷◌}
use Rattle.notif.specs.History as desk
use Rattle.notify_play.specs.NotifyPlay.{NotifyPlay}
use Rattle.notify_text.specs.declared.notify_trace.Signal.{Signal}

-- those at the front that stand behind so many items
abbrev pub front_at : ℕ → List Signal → List Signal
front_at at [] = []
front_at at (signal ∷ signals) = if signal.at == at then signal ∷ front_at at signals else []

-- and those behind them
abbrev pub behind_at : ℕ → List Signal → List Signal
behind_at at [] = []
behind_at at (signal ∷ signals) = if signal.at == at then behind_at at signals else signal ∷ signals

-- the play after these signals, one after the other
abbrev pub signalled_by : List Signal → NotifyPlay → NotifyPlay
signalled_by [] told = told
signalled_by (signal ∷ signals) told =
    signalled_by signals (record told { calls = desk.Signal signal.value ∷ told.calls })
