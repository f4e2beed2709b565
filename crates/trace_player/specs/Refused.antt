-- The entry that the play of a trace refuses.
use Rattle.std.specs.Prelude.{ℕ, List, Option, Some, None}
use Rattle.std.specs.Option.{option_and_then}
use Rattle.kernel_model.specs.Application.{Native}
use Rattle.play_model.specs.Play.{Play, played}
use Rattle.ta_isa.specs.declared.boot.Boot.{Boot}
use Rattle.trace_text.specs.declared.trace.Trace.{Trace}

-- how many bytes the entry would have read that the play of a trace refuses, where it refuses one
abbrev pub refused_by : List Native → Trace → Option Boot → Option ℕ
refused_by natives trace None = None
refused_by natives trace (Some boot) = option_and_then (λ (play : Play). play.refused) (played natives boot trace)

abbrev pub refused_in : List Native → Trace → Option ℕ
refused_in natives trace = refused_by natives trace trace.boot
