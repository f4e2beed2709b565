-- What steps let happen, which histories hold that in its order, with each signal at its place, and what is told at each exit then: the
-- kernel's answer, or what the desk makes of it. This project's own.
use Rattle.std.specs.Prelude.{◌≡◌, ℕ, List, [], ◌∷◌, ◌++◌, None, filter_map, map}
use Rattle.std.specs.List.{flat_map}
use Rattle.event_journal.specs.declared.event.Event.{Event}
use Rattle.event_journal.specs.declared.event.Event.TheVariants.{Entry, Exit}
use Rattle.kernel_model.specs.Argument.{reg}
use Rattle.notif.specs.History.{DeskCall, Signal, desk_after}
use Rattle.notify_text.specs.Steps.{Signals, Step, Takes}
use Rattle.play_model.specs.Order.{IsMadeBy, Move, line_of_event, moves_of, told_by_line}
use Rattle.smc_abi.specs.declared.regs.Regs.{Regs}
use Rattle.notify_play.specs.Duty.{Duty, duty_of, last_entry}
use Rattle.notify_play.specs.NotifyPlay.{Drivers, NotifyPlay}
use Rattle.notify_play.specs.Told.{told_regs, with_duty}

-- what a step lets happen: a processor's entry or exit, or the signal of a value
pub data Turn : Type 0 where
  Moves : (move : Move) → Turn
  Signalled : (value : ℕ) → Turn

-- all that it does
abbrev pub turns_of : Step → List Turn
turns_of (Takes i) = map (λ move. Moves move) (moves_of i)
turns_of (Signals value) = Signalled value ∷ []

-- ---- what has come so far

pub record Moment : Type 0 where
  -- the kernel's history, with its own answers
  pub history : List Event
  -- the same, with the registers that processors were told at their exits
  pub told : List Event
  -- the calls of the desk, the last one first
  pub calls : List DeskCall

-- nothing
abbrev pub at_first : Moment
at_first = record { history = []; told = []; calls = [] }

-- what an exit asks of the desk, where the kernel answers its processor so: by the processor's last entry
abbrev pub duty_then : Moment → ℕ → Regs → Duty
duty_then now cpu answer = duty_of (last_entry now.history cpu) (reg answer.a 0)

-- what the processor is told: that answer, or what the desk makes of it
abbrev pub told_then : Drivers → Moment → ℕ → Regs → Regs
told_then drivers now cpu answer = record {
  a = told_regs (desk_after drivers now.calls) (last_entry now.history cpu).regs answer.a (duty_then now cpu answer);
}

-- an event comes
abbrev pub event_comes : Drivers → Moment → Event → Moment
event_comes drivers now (Entry cpu given steps reads) = record {
  history = now.history ++ Entry cpu given steps reads ∷ [];
  told = now.told ++ Entry cpu given steps reads ∷ [];
  calls = now.calls;
}
event_comes drivers now (Exit cpu answer) = record {
  history = now.history ++ Exit cpu answer ∷ [];
  told = now.told ++ Exit cpu (told_then drivers now cpu answer) ∷ [];
  calls = with_duty (duty_then now cpu answer) now.calls;
}

-- a value is signalled
abbrev pub signal_comes : Moment → ℕ → Moment
signal_comes now value = record now { calls = Signal value ∷ now.calls }

-- ---- in order

-- from one moment the turns lead to the other by these events: each is what its move lets happen by then, where `=i` names a register
-- as it was told
abbrev pub Lead : Drivers → Moment → List Turn → List Event → Moment → Type 0
Lead drivers now [] [] end = end ≡ now
Lead drivers now [] (event ∷ events) end = ⊥
Lead drivers now (Signalled value ∷ turns) events end = Lead drivers (signal_comes now value) turns events end
Lead drivers now (Moves move ∷ turns) [] end = ⊥
Lead drivers now (Moves move ∷ turns) (event ∷ events) end =
    IsMadeBy now.told move event × Lead drivers (event_comes drivers now event) turns events end

-- the play holds these steps in their order
pub record HoldsSteps (drivers : Drivers) (steps : List Step) (told : NotifyPlay) : Type 0 where
  -- all of them were taken, or those before a refused entry
  pub taken : List Step
  pub rest : List Step
  pub cut : steps ≡ taken ++ rest
  pub all : told.play.refused ≡ None → rest ≡ []
  -- they lead to its end by its history: each processor's entries and exits come in their order, and each signal at its place
  pub end : Moment
  pub lead : Lead drivers at_first (flat_map turns_of taken) told.play.history end
  -- its desk was called as the signals and the exits ask
  pub calls : told.calls ≡ end.calls
  -- each printed return is an exit as its processor was told it, the kernel's or what the desk makes of that; and each exit is printed
  -- once, in their order
  pub returns : filter_map told_by_line told.play.lines ≡ filter_map line_of_event end.told
