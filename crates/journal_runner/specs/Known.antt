-- What is known of a trace that was read.
use Rattle.std.specs.Prelude.{◌≡◌, List, [], Option, None, Some}
use Rattle.kernel_model.specs.Application.{IsBooted, Native, booted}
use Rattle.ta_isa.specs.declared.boot.Boot.{Boot}
use Rattle.trace_text.specs.declared.trace.Trace.{Trace}

-- a core can be booted with this boot of the trace, beside built-in applications; with none it has no items
abbrev pub CanBootWith : List Native → Trace → Option Boot → Type 0
CanBootWith natives trace None = trace.items ≡ []
CanBootWith natives trace (Some boot) = IsBooted (booted boot natives)

abbrev pub CanBoot : List Native → Trace → Type 0
CanBoot natives trace = CanBootWith natives trace trace.boot
