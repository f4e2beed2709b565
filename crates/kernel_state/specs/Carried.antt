-- What a processor carries from its entry to its exit.
use Rattle.std.specs.Prelude.{ℕ, ◌+◌, ◌<◌, ◌^◌, List, Option, Some, None}
use Rattle.rpc_cont.specs.Advancing.{CanAdvance}
use Rattle.rpc_cont.specs.declared.cont.Cont.{Cont}
use Rattle.kernel_state.specs.Calls.{bytes_of}
use Rattle.kernel_state.specs.declared.carried.Carried.{Carried}
use Rattle.kernel_state.specs.declared.carried.Carried.TheVariants.{Nothing, Resting, Running}

-- the call that runs, if one does
abbrev pub running_call : Carried → Option (Cont (List ℕ))
running_call Nothing = None
running_call (Resting cont) = None
running_call (Running cont) = Some cont.value

-- so many steps can be granted to it
abbrev pub CanBeGranted : ℕ → Carried → Type 0
CanBeGranted steps Nothing = Unit {0}
CanBeGranted steps (Resting cont) = Unit {0}
CanBeGranted steps (Running cont) = CanAdvance bytes_of cont.value × (cont.value.steps + steps < 2 ^ 128)
