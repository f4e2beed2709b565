-- What contracts see of a core: what it was booted with, on which terms, its events, and the kernel that those come to.
use Rattle.std.specs.Prelude.{ℕ, not, Bool, false, List, Option, count_by, slice_get}
use Rattle.std.specs.Option.{option_map_or}
use Rattle.event_journal.specs.declared.event.Event.{Event}
use Rattle.kernel_model.specs.Application.{Booted}
use Rattle.kernel_model.specs.History.{is_outside, kernel_after}
use Rattle.kernel_model.specs.Instances.{free_pages}
use Rattle.kernel_model.specs.Kernel.{Kernel, is_free}
use Rattle.kernel_state.specs.Setup.{Basis, basis_with, booted_of_setup}
use Rattle.kernel_state.specs.declared.kernel_core.Core.{Core}
use Rattle.kernel_state.specs.declared.terms.Terms.{Terms}

abbrev pub booted_of : Core → Booted
booted_of core = booted_of_setup core.parts.setup

-- what becomes of its events, and how much its entries may read
abbrev pub terms_of : Core → Terms
terms_of core = core.parts.setup.terms

-- all of them, kept or not
abbrev pub events_of : Core → List Event
events_of core = core.parts.journal.events

-- what no call changes of it
abbrev pub core_basis : Core → Basis
core_basis core = basis_with core.parts.setup

-- there always is one
abbrev pub kernel_of : Core → Option Kernel
kernel_of core = kernel_after (booted_of core) (events_of core)

-- ---- what is asked of a kernel

abbrev pub free_slots_in : Kernel → ℕ
free_slots_in kernel = count_by is_free kernel.slots

abbrev pub free_pages_in : Booted → Kernel → ℕ
free_pages_in boot kernel = free_pages boot kernel.tables.instances

-- the processor is inside, where there is one of this number
abbrev pub is_inside : ℕ → Kernel → Bool
is_inside cpu kernel = option_map_or (λ processor. not (is_outside processor)) (slice_get kernel.processors cpu) false
