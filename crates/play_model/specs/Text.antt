-- The text of a trace: what its play prints, in the order of its items. This project's own.
use Rattle.std.specs.Prelude.{ℕ, List, [], Option, Some, None}
use Rattle.std.specs.List.{flat_map}
use Rattle.std.specs.Option.{option_map}
use Rattle.kernel_model.specs.Application.{Native}
use Rattle.ta_isa.specs.declared.boot.Boot.{Boot}
use Rattle.trace_text.specs.declared.trace.Trace.{Trace}
use Rattle.play_model.specs.Line.{text_of_line}
use Rattle.play_model.specs.Play.{Play, played}

-- what a play has printed
abbrev pub text_of_play : Play → List ℕ
text_of_play play = flat_map text_of_line play.lines

-- what the play of a trace with this boot prints; with no boot there is nothing to play
abbrev pub text_by : List Native → Trace → Option Boot → Option (List ℕ)
text_by natives trace None = Some []
text_by natives trace (Some boot) = option_map text_of_play (played natives boot trace)

-- the text of a trace beside built-in applications
abbrev pub text_of : List Native → Trace → Option (List ℕ)
text_of natives trace = text_by natives trace trace.boot
