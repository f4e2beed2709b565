-- Which processors are inside.
use Rattle.std.specs.Prelude.{◌≡◌, ℕ, not, Bool, true, List, map, Some, IsSomeAnd, slice_get}
use Rattle.kernel_model.specs.History.{is_outside}
use Rattle.kernel_model.specs.Kernel.{Kernel, Outside}
use Rattle.kernel_state.specs.Meaning.{is_inside, kernel_of}
use Rattle.kernel_state.specs.declared.kernel_core.Core.{Core}

-- those of a kernel, by their numbers
abbrev pub insides : Kernel → List Bool
insides kernel = map (λ processor. not (is_outside processor)) kernel.processors

-- a core has a processor of this number, which is inside
abbrev pub IsInside : Core → ℕ → Type 0
IsInside core cpu = IsSomeAnd (kernel_of core) (λ kernel. is_inside cpu kernel ≡ true)

-- a core has a processor of this number, which is outside
abbrev pub IsOutside : Core → ℕ → Type 0
IsOutside core cpu = IsSomeAnd (kernel_of core) (λ kernel. slice_get kernel.processors cpu ≡ Some Outside)
