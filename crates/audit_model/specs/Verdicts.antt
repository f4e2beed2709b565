-- Which journals begin a legal and steady history, and of any other journal which event is the first with which none begins. This project's own.
use Rattle.std.specs.Prelude.{ℕ, ◌+◌, ◌<◌, List, ◌++◌, length, take}
use Rattle.std.specs.List.{AllByRecursion}
use Rattle.event_journal.specs.declared.event.Event.{Event}
use Rattle.kernel_model.specs.Application.{Booted}
use Rattle.kernel_model.specs.History.{IsLegal}
use Rattle.kernel_state.specs.Reads.{ReadsAgree}
use Rattle.audit_model.specs.declared.verdict.Verdict.{Verdict}
use Rattle.audit_model.specs.declared.verdict.Verdict.TheVariants.{Legal, Illegal}

-- the reads of each entry agree on every address that they share: RAM doesn't change while an entry reads it
abbrev pub IsSteady : List Event → Type 0
IsSteady history = AllByRecursion ReadsAgree history

-- the history is legal from this boot, and steady
pub record IsFaultless (boot : Booted) (history : List Event) : Type 0 where
  pub legal : IsLegal boot history
  pub steady : IsSteady history

-- some faultless history begins with these events
pub record CanBegin (boot : Booted) (events : List Event) : Type 0 where
  pub more : List Event
  pub faultless : IsFaultless boot (events ++ more)

-- the event of this number is the first one such that no faultless history begins with the events up to and with it
pub record IsIllegalAt (boot : Booted) (events : List Event) (at : ℕ) : Type 0 where
  pub there : at < length events
  pub before : CanBegin boot (take at events)
  pub with_it : CanBegin boot (take (at + 1) events) → ⊥

abbrev pub IsVerdict : Booted → List Event → Verdict → Type 0
IsVerdict boot events Legal = CanBegin boot events
IsVerdict boot events (Illegal at) = IsIllegalAt boot events at
