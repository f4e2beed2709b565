-- Where a player stands: a play, and what each processor was last told.
use Rattle.std.specs.Prelude.{◌≡◌, ℕ, ◌<◌, ◌==◌, if◌then◌else◌, List, map, Some, slice_get}
use Rattle.core_machine.specs.Standing.{IsAt}
use Rattle.kernel_model.specs.Application.{Booted}
use Rattle.kernel_model.specs.Kernel.{Visit}
use Rattle.play_model.specs.Play.{Play, last_answer, number_in}
use Rattle.smc_abi.specs.declared.regs.Regs.{Regs}
use Rattle.trace_text.specs.declared.item.Reg.{Reg}
use Rattle.trace_player.specs.declared.player.Player.{Player}

-- a play, with RAM and lines as the answers to its exits made them, and the registers that each processor was last told, by its
-- number
pub record Position : Type 0 where
  pub play : Play
  pub told : ℕ → List ℕ

-- in the play of a trace the kernel's answer is told
abbrev pub position_of : Play → Position
position_of play = record { play = play; told = last_answer play.history }

-- a processor was told these registers besides
abbrev pub told_too : ℕ → List ℕ → Position → Position
told_too cpu regs at = record at { told = λ other. if cpu == other then regs else at.told other }

-- a processor that comes in with these registers, each a number or one of those that it was last told
abbrev pub visit_at : Position → ℕ → ℕ → List Reg → Visit
visit_at at cpu steps regs = record { cpu = cpu; regs = map (number_in (at.told cpu)) regs; steps = steps }

-- of each of so many processors, this is what it was last told
abbrev pub AreTold : ℕ → (ℕ → List ℕ) → List Regs → Type 0
AreTold count told answers = (cpu : ℕ) → cpu < count → slice_get answers cpu ≡ Some (record { a = told cpu })

-- the player stands there, but for what was printed
pub record StandsAt (boot : Booted) (at : Position) (player : Player) : Type 0 where
  pub machine : IsAt boot at.play player.machine
  pub answers : AreTold boot.cpus at.told player.answers
