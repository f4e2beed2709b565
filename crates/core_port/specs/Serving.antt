-- One entry and one exit of processor 0 of a core, and what is true of each port's core.
use Rattle.std.specs.Prelude.{◌≡◌, ◌≤◌, ◌^◌, ℕ, List, length, Result, Ok, Err}
use Rattle.core_at_work.specs.Insides.{IsOutside}
use Rattle.kernel_model.specs.Application.{Booted}
use Rattle.kernel_state.specs.Entering.{Coming, HasEntered, IsAsBefore, IsTooMuch}
use Rattle.kernel_state.specs.Leaving.{HasLeft}
use Rattle.kernel_state.specs.Meaning.{booted_of, events_of, terms_of}
use Rattle.kernel_state.specs.declared.enter_refusal.EnterRefusal.{EnterRefusal}
use Rattle.kernel_state.specs.declared.enter_refusal.EnterRefusal.TheVariants.{Full, Memory}
use Rattle.kernel_state.specs.declared.kernel_core.Core.{Core}
use Rattle.kernel_state.specs.declared.work.Ran.{Ran}
use Rattle.kernel_state.specs.declared.work.Work.{Work}
use Rattle.smc_abi.specs.declared.regs.Regs.{Regs}
use Rattle.smc_port.specs.Smc.{Smc}
use Rattle.core_port.specs.Smcs.{history_of, smcs_in}

abbrev pub coming_with : Regs → Coming
coming_with regs = record { cpu = 0; regs = regs; steps = 10000 }

-- it has come in with these registers, done its granted steps, and gone out with this answer
pub record GoesThrough (old new : Core) (lane now : List ℕ) (regs answer : Regs) : Type 0 where
  pub between : Core
  pub work : Work
  pub entered : HasEntered old between (coming_with regs) lane work
  pub ran : Ran
  pub cpu : ran.cpu ≡ 0
  pub left : HasLeft between new ran lane now answer

-- by the answer of the core
abbrev pub Serves : Core → Core → List ℕ → List ℕ → Regs → Result Regs EnterRefusal → Type 0
Serves old new lane now regs (Ok answer) = GoesThrough old new lane now regs answer
Serves old new lane now regs (Err (Full copied more)) =
    IsAsBefore old new × (now ≡ lane) × IsTooMuch old (coming_with regs) lane copied more
Serves old new lane now regs (Err Memory) = IsAsBefore old new × (now ≡ lane)

-- ---- what is true of each port

abbrev pub smcs_of : Core → List Smc
smcs_of core = smcs_in (booted_of core) (events_of core)

-- its core was booted so, and its entries may read 2^28 bytes; its processor is outside, its lane has all bytes of RAM, its history
-- is that of its SMCs, and as many were made
pub record IsPort (boot : Booted) (core : Core) (lane : List ℕ) (made : ℕ) : Type 0 where
  pub boots : booted_of core ≡ boot
  pub limit : (terms_of core).most ≡ 2 ^ 28
  pub outside : IsOutside core 0
  pub whole : length lane ≡ 0x400000
  pub just_these : events_of core ≡ history_of (smcs_of core)
  pub counted : length (smcs_of core) ≡ made
  pub few : made ≤ 32768
