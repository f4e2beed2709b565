-- The steps of calls by the entries of a history. This project's own.
use Rattle.std.specs.Prelude.{◌≡◌, ℕ, zero, suc, List, [], ◌∷◌, Some}
use Rattle.event_journal.specs.declared.event.Event.{Event}
use Rattle.event_journal.specs.declared.event.Event.TheVariants.{Entry, Exit}
use Rattle.kernel_model.specs.Application.{Booted}
use Rattle.kernel_model.specs.History.{kernel_after}
use Rattle.kernel_model.specs.Kernel.{Kernel}
use Rattle.kernel_model.specs.Sound.{AreGranted}

-- how many of these events are entries
abbrev pub entries_in : List Event → ℕ
entries_in [] = zero
entries_in (Entry cpu regs steps reads ∷ events) = suc (entries_in events)
entries_in (Exit cpu regs ∷ events) = entries_in events

-- a call has done at most a million steps for each entry
abbrev pub StepsAreOfEntries : Type 0
StepsAreOfEntries = (boot : Booted) (history : List Event) (kernel : Kernel) →
    kernel_after boot history ≡ Some kernel → AreGranted (entries_in history) kernel
