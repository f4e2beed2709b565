-- What plays come to in the code, item by item.
use Rattle.std.specs.Prelude.{◌≡◌, ℕ, ◌<◌, List, ◌++◌, length, All, Option, Some, Result, Ok, Err}
use Rattle.std.specs.List.{flat_map}
use Rattle.event_journal.specs.declared.event.Event.{Event}
use Rattle.kernel_model.specs.Application.{Booted}
use Rattle.play_model.specs.Line.{Line, text_of_line}
use Rattle.play_model.specs.Play.{Play}
use Rattle.smc_abi.specs.declared.regs.Regs.{Regs}
use Rattle.trace_text.specs.declared.item.Item.{Item}
use Rattle.trace_text.specs.declared.item.Item.TheVariants as item
use Rattle.trace_text.specs.declared.item.Reg.{Reg}
use Rattle.trace_text.specs.Sound.{IsPartOfRam, IsSoundReg}
use Rattle.kernel_state.specs.Meaning.{booted_of, events_of, terms_of}
use Rattle.kernel_state.specs.declared.terms.Terms.{Terms}
use Rattle.core_machine.specs.Standing.{CanCome}
use Rattle.core_machine.specs.declared.machine.Machine.{Machine}
use Rattle.core_machine.specs.declared.smc.Smc.TheVariants.{Comes, Leaves}
use Rattle.trace_player.specs.Kinds.{Kind, of_trace, play_in}
use Rattle.trace_player.specs.Position.{StandsAt, position_of}
use Rattle.trace_player.specs.declared.player.Player.{Player}
use Rattle.word_parts.specs.declared.stop.Stop.{Stop}
use Rattle.word_parts.specs.declared.stop.Stop.TheVariants.{Full, Failed, Memory}

-- all entries and exits of the player's core
abbrev pub history_of : Player → List Event
history_of player = events_of player.machine.at_work.core

-- what becomes of them, and how much its entries may read
abbrev pub terms_in : Player → Terms
terms_in player = terms_of player.machine.at_work.core

-- the player has come to this play of a trace, but for what was printed
abbrev pub IsPlayedTo : Booted → Play → Player → Type 0
IsPlayedTo boot play player = StandsAt boot (position_of play) player

-- where it has come to a play before, it has come to no other since
abbrev pub StaysAt : Player → Player → Type 0
StaysAt old new = (boot : Booted) (play : Play) → IsPlayedTo boot play old → IsPlayedTo boot play new

-- ---- what can come

-- the machine has RAM for this processor
abbrev pub HasLane : Machine → ℕ → Type 0
HasLane machine cpu = cpu < (booted_of machine.at_work.core).cpus

-- this processor of it can come in, with such registers, each a number or one of those that it was last told
pub record CanComeIn (machine : Machine) (cpu steps : ℕ) (regs : List Reg) : Type 0 where
  pub few : cpu < 8
  pub lane : HasLane machine cpu
  pub comes : (given : Regs) → CanCome machine (Comes (record { cpu = cpu; regs = given; steps = steps }))
  pub sound : All IsSoundReg regs

-- this processor of it can go out
pub record CanGoOut (machine : Machine) (cpu : ℕ) : Type 0 where
  pub few : cpu < 8
  pub lane : HasLane machine cpu
  pub leaves : CanCome machine (Leaves cpu)

-- this processor of it can be told something
pub record CanBeTold (machine : Machine) (cpu : ℕ) : Type 0 where
  pub few : cpu < 8
  pub lane : HasLane machine cpu

-- the machine can take the item: its processor can come in or go out, and its addresses lie in RAM
abbrev pub CanBeTaken : Machine → Item → Type 0
CanBeTaken machine (item.Smc cpu steps regs) = CanComeIn machine cpu steps regs
CanBeTaken machine (item.Enter cpu steps regs) = CanComeIn machine cpu steps regs
CanBeTaken machine (item.Leave cpu) = CanGoOut machine cpu
CanBeTaken machine (item.Write cpu addr bytes) = HasLane machine cpu × IsPartOfRam addr (length bytes)
CanBeTaken machine (item.Show cpu addr len) = HasLane machine cpu × IsPartOfRam addr len

-- so can the player
abbrev pub CanTake : Player → Item → Type 0
CanTake player i = CanBeTaken player.machine i

-- ---- what is printed

-- the text of lines
abbrev pub text_of_lines : List Line → List ℕ
text_of_lines lines = flat_map text_of_line lines

-- the text of the lines that one play has behind the other's stands behind the old text
abbrev pub Prints : Play → Play → List ℕ → List ℕ → Type 0
Prints before after old new =
    (lines : List Line) × (after.lines ≡ before.lines ++ lines) × (new ≡ old ++ text_of_lines lines)

-- ---- what a play comes to

-- something that a play of a kind comes to, where it can come, and the player with it, by what has come to a play; a refused entry,
-- which would have read so many bytes, prints nothing, and leaves the player at the play before
abbrev pub Plays : {P : Type 0} → Kind P → (P → Type 0) → P → Option P → Result (Unit {0}) Stop → List ℕ → List ℕ → Type 0
Plays {P} kind HasCome before after (Ok done) old new =
    (next : P) × (after ≡ Some next) × HasCome next × Prints (play_in kind before) (play_in kind next) old new
Plays {P} kind HasCome before after (Err Full) old new =
    (more : ℕ) × (after ≡ Some (kind.over before (record (play_in kind before) { refused = Some more }))) × (new ≡ old) × HasCome before
Plays {P} kind HasCome before after (Err Failed) old new = ⊥
Plays {P} kind HasCome before after (Err Memory) old new = Unit {0}

-- that of a trace
abbrev pub Follows : Booted → Play → Option Play → Result (Unit {0}) Stop → Player → List ℕ → List ℕ → Type 0
Follows boot play after result player old new = Plays (of_trace boot) (λ p. IsPlayedTo boot p player) play after result old new
