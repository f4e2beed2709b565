-- The duties of the code in the words of the play of a trace with signals, and the desk after one of them.
use Rattle.std.specs.Prelude.{◌≡◌, List, [], ◌∷◌, length, Option, None, Some}
use Rattle.notif.specs.Desk.{DeskState, after_bottom_half, after_enable, after_next, after_stop}
use Rattle.notify_play.specs.Duty as play
use Rattle.notify_play.specs.Told.{result_in}
use Rattle.ns_ram.specs.Writes.{Write}
use Rattle.ns_ram.specs.declared.read.Read.{Read}
use Rattle.desk_answers.specs.declared.answering.ResultIn.{ResultIn}
use Rattle.desk_answers.specs.declared.duty.Duty.{Duty}
use Rattle.desk_answers.specs.declared.duty.Duty.TheVariants.{Nothing, TellsValue, Enables, Offers, RunsBottomHalf, Stops}

abbrev pub duty_in : Duty → play.Duty
duty_in Nothing = play.Nothing
duty_in TellsValue = play.TellsValue
duty_in Enables = play.Enables
duty_in Offers = play.Offers
duty_in (RunsBottomHalf arg) = play.RunsBottomHalf arg
duty_in (Stops arg) = play.Stops arg

-- the first read is the head of an argument
abbrev pub HasHeadFirst : List Read → Type 0
HasHeadFirst [] = Unit {0}
HasHeadFirst (head ∷ reads) = length head.bytes ≡ 32

-- what is written of a result, if there is one
abbrev pub writes_of : Option ResultIn → List Write
writes_of None = []
writes_of (Some result) = result_in result.arg result.ret

-- the desk after a duty
abbrev pub after_duty : DeskState → Duty → DeskState
after_duty desk Nothing = desk
after_duty desk TellsValue = after_next desk
after_duty desk Enables = after_enable desk
after_duty desk Offers = desk
after_duty desk (RunsBottomHalf arg) = after_bottom_half desk
after_duty desk (Stops arg) = after_stop desk
