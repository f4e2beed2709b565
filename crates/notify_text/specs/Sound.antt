-- The limits that a trace with signals keeps where a text spells it. This project's own.
use Rattle.std.specs.Prelude.{◌≡◌, ℕ, ◌≤◌, List, [], length, All, IfNone}
use Rattle.std.specs.List.{AllPairs}
use Rattle.notify_text.specs.declared.notify_trace.NotifyTrace.{NotifyTrace}
use Rattle.notify_text.specs.declared.notify_trace.Signal.{Signal}
use Rattle.trace_text.specs.Sound.{IsSound}

-- a value from 1 to 63, behind at most so many items
pub record IsSoundSignal (items : ℕ) (signal : Signal) : Type 0 where
  pub some : 1 ≤ signal.value
  pub few : signal.value ≤ 63
  pub there : signal.at ≤ items

-- a later signal stands behind as many items as an earlier one, or behind more
abbrev pub AreInOrder : List Signal → Type 0
AreInOrder signals = AllPairs (λ (earlier later : Signal). earlier.at ≤ later.at) signals

-- the trace and the signals are within their limits, beside built-in applications of these UUIDs
pub record IsSoundTold (natives : List (List ℕ)) (told : NotifyTrace) : Type 0 where
  pub trace : IsSound natives told.trace
  pub no_boot : IfNone told.trace.boot (told.signals ≡ [])
  pub signals : All (IsSoundSignal (length told.trace.items)) told.signals
  pub in_order : AreInOrder told.signals
