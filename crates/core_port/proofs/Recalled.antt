-- What is true of each port.
use Rattle.std.proofs.Common.{ℕ, ◌≤◌, ◌^◌, List, sym, subst}
use Rattle.event_journal.specs.Journal.{copied_bytes}
use Rattle.kernel_model.specs.Application.{Booted}
use Rattle.kernel_state.specs.Meaning.{events_of}
use Rattle.kernel_state.specs.declared.kernel_core.Core.{Core}
use Rattle.kernel_state.proofs.CoreEvents.{core_is_legal}
use Rattle.kernel_state.proofs.Told.{few_bytes}
use Rattle.core_port.specs.CorePort.{IsKernels}
use Rattle.core_port.specs.Serving.{IsPort}
use Rattle.core_port.proofs.Served.{view_of}

module _ (boot : Booted) (core : Core) (lane : List ℕ) (made : ℕ) (port : IsPort boot core lane made) where
  pub are_kernels : IsKernels (view_of core lane)
  are_kernels = record {
    legal = core_is_legal core;
    just_these = port.just_these;
    few = subst (λ (n : ℕ). n ≤ 32768) (sym port.counted) port.few;
  }

  pub few_copied : copied_bytes (events_of core) ≤ 2 ^ 28
  few_copied = subst (λ (most : ℕ). copied_bytes (events_of core) ≤ most) port.limit (few_bytes core.parts core.replay)
