-- What the processors of a core go out with.
use Rattle.std.specs.Prelude.{◌≡◌, ℕ, List, length, map, Option, Some, slice_get}
use Rattle.std.specs.Option.{is_some, option_map}
use Rattle.core_at_work.specs.Insides.{insides}
use Rattle.kernel_state.specs.Leaving.{CanLeave}
use Rattle.kernel_state.specs.Meaning.{booted_of, kernel_of}
use Rattle.kernel_state.specs.declared.kernel_core.Core.{Core}
use Rattle.kernel_state.specs.declared.work.Ran.{Ran}

-- just the processors that are inside have something to go out with, each its own
pub record HaveTheirOwn (core : Core) (outgoing : List (Option Ran)) : Type 0 where
  pub each : length outgoing ≡ (booted_of core).cpus
  pub inside : option_map insides (kernel_of core) ≡ Some (map is_some outgoing)
  pub own : (cpu : ℕ) (ran : Ran) → slice_get outgoing cpu ≡ Some (Some ran) → (ran.cpu ≡ cpu) × CanLeave core ran
