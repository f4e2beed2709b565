-- What the play of a script has written. This project's own.
use Rattle.std.specs.Prelude.{ℕ, List, Option, Result}
use Rattle.client_play.specs.Played.{stopped_in, text_of}
use Rattle.client_text.specs.declared.script.Script.{Script}
use Rattle.kernel_model.specs.Application.{Native}
use Rattle.word_parts.specs.Answer.{IsTold}
use Rattle.word_parts.specs.declared.stop.Stop.{Stop}

-- its play ended so, or stopped, and its text was written, or a part of it
abbrev pub IsToldOf : List Native → Script → Result (Unit {0}) Stop → Option (List ℕ) → Option (List ℕ) → Type 0
IsToldOf natives script result old new = IsTold (stopped_in natives script) (text_of natives script) result old new
