-- The text of a trace with signals: what its play prints, in the order of its items. This project's own.
use Rattle.std.specs.Prelude.{ℕ, List, [], Option, Some, None}
use Rattle.std.specs.Option.{option_map}
use Rattle.kernel_model.specs.Application.{Native}
use Rattle.notify_text.specs.declared.notify_trace.NotifyTrace.{NotifyTrace}
use Rattle.play_model.specs.Text.{text_of_play}
use Rattle.ta_isa.specs.declared.boot.Boot.{Boot}
use Rattle.notify_play.specs.NotifyPlay.{Drivers, NotifyPlay, notify_played}

-- what a play has printed
abbrev pub notify_text_of_play : NotifyPlay → List ℕ
notify_text_of_play told = text_of_play told.play

-- what the play of a trace with this boot prints; with no boot there is nothing to play
abbrev pub notify_text_by : List Native → Drivers → NotifyTrace → Option Boot → Option (List ℕ)
notify_text_by natives drivers told None = Some []
notify_text_by natives drivers told (Some boot) =
    option_map notify_text_of_play (notify_played natives drivers boot told)

-- the text of a trace beside built-in applications and drivers
abbrev pub notify_text_of : List Native → Drivers → NotifyTrace → Option (List ℕ)
notify_text_of natives drivers told = notify_text_by natives drivers told told.trace.boot
