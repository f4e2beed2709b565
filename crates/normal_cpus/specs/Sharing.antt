-- What contracts see of a shared core and of its processors' passes.
use Rattle.std.specs.Prelude.{◌≡◌, ℕ, Bool, true, false, List, None, map}
use Rattle.std.specs.List.{last_or}
use Rattle.std.specs.Option.{option_map_or}
use Rattle.core_lock.specs.Counts.{numbers_from, times}
use Rattle.core_lock.specs.Passes.{AreIdle, IsIdle, IsPassOf, basis_of, made, number}
use Rattle.core_lock.specs.declared.pass.Pass.{Pass}
use Rattle.event_journal.specs.declared.event.Event.{Event}
use Rattle.event_journal.specs.declared.event.Event.TheVariants.{Entry, Exit}
use Rattle.kernel_model.specs.Application.{Booted}
use Rattle.kernel_model.specs.Turns.{cpu_of}
use Rattle.kernel_state.specs.Meaning.{core_basis}
use Rattle.kernel_state.specs.Setup.{Basis}
use Rattle.kernel_state.specs.declared.kernel_core.Core.{Core}
use Rattle.normal_cpus.specs.declared.shared_core.SharedCore.{SharedCore}

abbrev pub CpuPass : Type 0
CpuPass = Pass Core Event Basis

-- what the core was booted with
abbrev pub boot_of : SharedCore → Booted
boot_of shared = (basis_of core_basis shared.lock).boot

-- ---- passes

-- the pass is one of this core's. It has no turn and no ticket, and of its processor it has seen just the events that it made
abbrev pub IsCpuOf : SharedCore → CpuPass → Type 0
IsCpuOf shared pass = IsPassOf cpu_of core_basis shared.lock pass × IsIdle pass

abbrev pub AreCpusOf : SharedCore → List CpuPass → Type 0
AreCpusOf shared passes = AreIdle cpu_of core_basis shared.lock passes

-- they are the passes of all its processors, each once
abbrev pub AreAllCpusOf : SharedCore → List CpuPass → Type 0
AreAllCpusOf shared passes = (n : ℕ) → times n (map number passes) ≡ times n (numbers_from 0 (boot_of shared).cpus)

abbrev pub is_entry : Event → Bool
is_entry (Entry cpu regs steps reads) = true
is_entry (Exit cpu regs) = false

-- the last of a processor's events is an entry
abbrev pub end_inside : List Event → Bool
end_inside events = option_map_or is_entry (last_or None events) false

-- the pass's processor is inside
abbrev pub is_inside : CpuPass → Bool
is_inside pass = end_inside (made pass)
