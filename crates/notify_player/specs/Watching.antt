-- Pages that have what the desk writes at an exit.
use Rattle.std.specs.Prelude.{Bool, List}
use Rattle.notify_play.specs.Duty.{Duty, Enables, Nothing, Offers, RunsBottomHalf, Stops, TellsValue}
use Rattle.page_set.specs.Pages.{HasBytes}

-- of a duty that writes a result, the head of its argument lies in these pages
abbrev pub CoversDuty : List Bool → Duty → Type 0
CoversDuty pages Nothing = Unit {0}
CoversDuty pages TellsValue = Unit {0}
CoversDuty pages Enables = Unit {0}
CoversDuty pages Offers = Unit {0}
CoversDuty pages (RunsBottomHalf arg) = HasBytes pages arg 32
CoversDuty pages (Stops arg) = HasBytes pages arg 32
