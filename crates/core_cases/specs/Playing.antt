-- A trace that was played.
use Rattle.std.specs.Prelude.{◌≡◌, List, Some}
use Rattle.kernel_model.specs.Application.{Native, booted}
use Rattle.kernel_state.specs.Meaning.{booted_of}
use Rattle.ta_isa.specs.declared.boot.Boot.{Boot}
use Rattle.trace_player.specs.declared.player.Player.{Player}
use Rattle.trace_text.specs.declared.trace.Trace.{Trace}

-- the player's core was booted with the trace's boot
abbrev pub HasItsBoot : List Native → Trace → Player → Type 0
HasItsBoot natives trace player =
    (boot : Boot) → trace.boot ≡ Some boot → booted_of player.machine.at_work.core ≡ booted boot natives
