-- Pins, in every kernel that a legal history comes to. This project's own.
use Rattle.std.specs.Prelude.{IsSome, All}
use Rattle.shm_registry.specs.declared.pin.Pin.{Pin}
use Rattle.kernel_model.specs.Kernel.{Tables}
use Rattle.kernel_model.specs.Sound.{Calls}

-- only a slot with a call pins a buffer
abbrev pub ArePinned : Calls → Tables → Type 0
ArePinned calls tables = All (λ (pin : Pin). IsSome (calls pin.slot)) tables.registered.pins
