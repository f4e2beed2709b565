-- How a processor came in by its last entry, and what is known of its exit's duty.
use Rattle.std.specs.Prelude.{◌≡◌, ℕ, List, [], Option, None, Some}
use Rattle.event_journal.specs.declared.event.Event.{Event}
use Rattle.event_journal.specs.declared.event.Event.TheVariants.{Entry, Exit}
use Rattle.event_log.specs.LastEntry.{last_entry}
use Rattle.kernel_model.specs.Application.{Booted}
use Rattle.kernel_model.specs.History.{IsLegal}
use Rattle.notif.specs.Desk.{DeskState}
use Rattle.notify_play.specs.Duty.{CameIn, Duty, Enables, Nothing, Offers, RunsBottomHalf, Stops, TellsValue, came_with}
use Rattle.notify_play.specs.Told.{told_regs}
use Rattle.ns_ram.specs.Lane.{IsInRam}

-- how a processor came in by its last entry, where it has one
abbrev pub came_by : Option Event → CameIn
came_by None = came_with [] []
came_by (Some (Entry cpu regs steps reads)) = came_with regs.a reads
came_by (Some (Exit cpu regs)) = came_with [] []

-- it is a processor's last entry in a legal history, where it has one there
pub record IsLastOfLegal (entry : Option Event) : Type 0 where
  pub boot : Booted
  pub history : List Event
  pub cpu : ℕ
  pub legal : IsLegal boot history
  pub last : entry ≡ last_entry cpu history

-- of a duty that writes a result, the head of its argument lies in RAM
abbrev pub HasArgument : Duty → Type 0
HasArgument Nothing = Unit {0}
HasArgument TellsValue = Unit {0}
HasArgument Enables = Unit {0}
HasArgument Offers = Unit {0}
HasArgument (RunsBottomHalf arg) = IsInRam arg 32
HasArgument (Stops arg) = IsInRam arg 32

-- whatever the desk and the kernel's answer, callers with these registers and with those are told the same
abbrev pub IsToldAlike : List ℕ → List ℕ → Duty → Type 0
IsToldAlike one other duty =
    (desk : DeskState) (answered : List ℕ) → told_regs desk one answered duty ≡ told_regs desk other answered duty
