-- The exits of a history, and the `ret` lines that are said of them.
use Rattle.std.specs.Prelude.{◌≡◌, ℕ, List, [], ◌∷◌, ◌++◌}
use Rattle.std.specs.List.{AllByRecursion}
use Rattle.event_journal.specs.declared.event.Event.{Event}
use Rattle.event_journal.specs.declared.event.Event.TheVariants.{Entry, Exit}
use Rattle.kernel_model.specs.Argument.{reg}
use Rattle.notif.specs.History.{DeskCall, desk_after}
use Rattle.notify_play.specs.Duty.{Duty, Nothing, duty_of, last_entry}
use Rattle.notify_play.specs.NotifyPlay.{Drivers}
use Rattle.notify_play.specs.Told.{told_regs}
use Rattle.play_model.specs.Line.{Line, Mem, Ret}

-- an exit: the events before it, its processor, and the kernel's registers
pub record ExitAt : Type 0 where
  pub before : List Event
  pub cpu : ℕ
  pub regs : List ℕ

abbrev pub exit_at : List Event → ℕ → List ℕ → ExitAt
exit_at before cpu regs = record { before = before; cpu = cpu; regs = regs }

-- those among these events, behind those
abbrev pub exits_behind : List Event → List Event → List ExitAt
exits_behind before [] = []
exits_behind before (Entry cpu regs steps reads ∷ events) = exits_behind (before ++ Entry cpu regs steps reads ∷ []) events
exits_behind before (Exit cpu regs ∷ events) = exit_at before cpu regs.a ∷ exits_behind (before ++ Exit cpu regs ∷ []) events

abbrev pub exits_in : List Event → List ExitAt
exits_in history = exits_behind [] history

-- what a line `ret` says
pub record Return : Type 0 where
  pub cpu : ℕ
  pub regs : List ℕ

abbrev pub return : ℕ → List ℕ → Return
return cpu regs = record { cpu = cpu; regs = regs }

-- those among these lines
abbrev pub returns_in : List Line → List Return
returns_in [] = []
returns_in (Ret cpu regs ∷ lines) = return cpu regs ∷ returns_in lines
returns_in (Mem cpu addr bytes ∷ lines) = returns_in lines

-- what an exit asks of the desk of signals
abbrev pub duty_in : ExitAt → Duty
duty_in gone = duty_of (last_entry gone.before gone.cpu) (reg gone.regs 0)

-- the line is of this exit: its registers are the kernel's where nothing is asked of the desk, and else what a desk makes of
-- them behind some calls; behind which ones, the play says that has printed the line
pub record IsReturnOf (drivers : Drivers) (gone : ExitAt) (told : Return) : Type 0 where
  pub cpu : told.cpu ≡ gone.cpu
  pub calls : List DeskCall
  pub regs : told.regs ≡ told_regs (desk_after drivers calls) (last_entry gone.before gone.cpu).regs gone.regs (duty_in gone)
  pub kernel : duty_in gone ≡ Nothing → told.regs ≡ gone.regs

-- no exit in this history asks anything of the desk
abbrev pub AsksNothing : List Event → Type 0
AsksNothing history = AllByRecursion (λ (gone : ExitAt). duty_in gone ≡ Nothing) (exits_in history)
