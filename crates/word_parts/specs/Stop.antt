-- Why a play stops.
use Rattle.kernel_state.specs.declared.enter_refusal.EnterRefusal.{EnterRefusal}
use Rattle.kernel_state.specs.declared.enter_refusal.EnterRefusal.TheVariants as refusal
use Rattle.word_parts.specs.declared.stop.Stop.{Stop}
use Rattle.word_parts.specs.declared.stop.Stop.TheVariants.{Full, Memory}

-- why a play stops where an entry was refused so
abbrev pub stop_of : EnterRefusal → Stop
stop_of (refusal.Full copied more) = Full
stop_of refusal.Memory = Memory
