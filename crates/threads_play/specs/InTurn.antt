-- What acts a processor can do, one after the other.
use Rattle.std.specs.Prelude.{◌≡◌, ◌≤◌, ℕ, Bool, true, false, List, [], ◌∷◌, length, All, Result, Ok, Err}
use Rattle.std.specs.Option.{is_some}
use Rattle.kernel_state.specs.declared.enter_refusal.EnterRefusal.{EnterRefusal}
use Rattle.kernel_state.specs.declared.enter_refusal.EnterRefusal.TheVariants.{Full, Memory}
use Rattle.ordered_play.specs.Act.{Act, Comes, Leaves, Writes, Shows}
use Rattle.trace_text.specs.Sound.{IsPartOfRam, IsSoundReg}
use Rattle.trace_text.specs.declared.item.Reg.{Reg}
use Rattle.threads_play.specs.declared.player.CpuPlayer.{CpuPlayer}

-- an entry's registers and steps are within their limits
pub record IsSoundEntry (steps : ℕ) (regs : List Reg) : Type 0 where
  pub some_steps : 1 ≤ steps
  pub few_steps : steps ≤ 1000000
  pub registers : All IsSoundReg regs

-- a processor that is inside, or is not, comes in and goes out by turns, its addresses lie in RAM, and in the end it is outside
abbrev pub AreInTurn : Bool → List Act → Type 0
AreInTurn inside [] = inside ≡ false
AreInTurn inside (Comes steps regs ∷ acts) = (inside ≡ false) × IsSoundEntry steps regs × AreInTurn true acts
AreInTurn inside (Leaves ∷ acts) = (inside ≡ true) × AreInTurn false acts
AreInTurn inside (Writes addr bytes ∷ acts) = IsPartOfRam addr (length bytes) × AreInTurn inside acts
AreInTurn inside (Shows addr len ∷ acts) = IsPartOfRam addr len × AreInTurn inside acts

-- behind this answer the player can do these acts; behind a refused entry it is outside
abbrev pub StaysInTurn : List Act → CpuPlayer → Result (Unit {0}) EnterRefusal → Type 0
StaysInTurn acts player (Ok done) = AreInTurn (is_some player.work) acts
StaysInTurn acts player (Err (Full copied more)) = is_some player.work ≡ false
StaysInTurn acts player (Err Memory) = Unit {0}
