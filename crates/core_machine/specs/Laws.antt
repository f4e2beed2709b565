-- What holds of machines and the plays at which they stand.
use Rattle.std.specs.Prelude.{◌≡◌, ℕ, ◌≤◌, true, false, List, length, replicate, Some, None, IsSome, slice_get}
use Rattle.std.specs.Prelude.{slice_set}
use Rattle.core_machine.specs.Standing.{CanAllCome, CanCome, IsAt, play_of}
use Rattle.core_at_work.specs.Insides.{insides}
use Rattle.core_machine.specs.Turns.{ComeInTurn}
use Rattle.core_machine.specs.declared.machine.Machine.{Machine}
use Rattle.core_machine.specs.declared.smc.Smc.{Smc}
use Rattle.core_machine.specs.declared.smc.Smc.TheVariants.{Comes, Leaves}
use Rattle.core_at_work.specs.Visitor.{Visitor}
use Rattle.kernel_model.specs.Application.{Booted}
use Rattle.kernel_model.specs.Kernel.{Errand, Inside, Kernel, Outside, Visit, first_kernel}
use Rattle.kernel_state.specs.Meaning.{booted_of, kernel_of}
use Rattle.play_model.specs.Play.{Play, enters, leaves}

pub record MachinesStand : Type 0 where
  -- each machine stands at a play
  pub stands : (machine : Machine) (kernel : Kernel) → kernel_of machine.at_work.core ≡ Some kernel →
      IsAt (booted_of machine.at_work.core) (play_of machine kernel) machine
  pub has_kernel : (machine : Machine) → IsSome (kernel_of machine.at_work.core)
  -- which has RAM for each processor
  pub lanes : (boot : Booted) (play : Play) (machine : Machine) → IsAt boot play machine → length play.lanes ≡ boot.cpus
  -- a processor that is outside there can come in, and one that is inside can go out
  pub can_come : (boot : Booted) (play : Play) (machine : Machine) (visitor : Visitor) → IsAt boot play machine →
      slice_get play.kernel.processors visitor.cpu ≡ Some Outside → 1 ≤ visitor.steps → visitor.steps ≤ 1000000 →
      CanCome machine (Comes visitor)
  pub can_leave : (boot : Booted) (play : Play) (machine : Machine) (cpu : ℕ) (regs : List ℕ) (steps : ℕ)
      (errand : Errand) →
      IsAt boot play machine → slice_get play.kernel.processors cpu ≡ Some (Inside regs steps errand) →
      CanCome machine (Leaves cpu)
  -- and so it is with a list
  pub all_can : (boot : Booted) (play : Play) (machine : Machine) (smcs : List Smc) → IsAt boot play machine →
      ComeInTurn (insides play.kernel) smcs → CanAllCome machine smcs

-- ---- turns

-- at first all are outside, and each entry and exit changes that of its own processor alone
pub record TurnsAreTaken : Type 0 where
  pub first : (boot : Booted) → insides (first_kernel boot) ≡ replicate boot.cpus false
  pub entry : (boot : Booted) (play next : Play) (visit : Visit) → enters boot play visit ≡ Some next →
      next.refused ≡ None →
      insides next.kernel ≡ slice_set (insides play.kernel) visit.cpu true
  pub exit : (boot : Booted) (play next : Play) (cpu : ℕ) → leaves boot cpu play ≡ Some next →
      insides next.kernel ≡ slice_set (insides play.kernel) cpu false
