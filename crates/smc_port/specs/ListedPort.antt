-- A port that answers by a list: what contracts see of it, and what an SMC does to it.
use Rattle.std.specs.Prelude.{◌≡◌, ℕ, Bool, nat_lt, List, [], ◌∷◌, ◌++◌, length, slice_get, Some}
use Rattle.ns_ram.specs.Writes.{lane_after}
use Rattle.smc_abi.specs.declared.regs.Regs.{Regs}
use Rattle.smc_port.specs.declared.turn.Turn.{Turn}
use Rattle.smc_port.specs.Smc.{Smc}

-- RAM, what the port does at each SMC in turn, and the registers of those made
pub record Listed : Type 0 where
  pub ram : List ℕ
  pub turns : List Turn
  pub made : List Regs

-- the SMC with these registers at a turn. Such a port reads nothing
abbrev pub smc_at : Regs → Turn → Smc
smc_at regs turn = record { regs = regs; reads = []; answer = turn.answer; writes = turn.writes }

-- the SMCs with these registers at these turns
abbrev pub smcs_at : List Regs → List Turn → List Smc
smcs_at [] turns = []
smcs_at (regs ∷ others) [] = []
smcs_at (regs ∷ others) (turn ∷ turns) = smc_at regs turn ∷ smcs_at others turns

-- the SMCs made
abbrev pub smcs_made : Listed → List Smc
smcs_made port = smcs_at port.made port.turns

-- whether a turn is left
abbrev pub has_turn : Listed → Bool
has_turn port = nat_lt (length port.made) (length port.turns)

-- the port after an SMC with these registers at this turn
abbrev pub after_turn : Listed → Regs → Turn → Listed
after_turn port regs turn = record port { ram = lane_after port.ram turn.writes; made = port.made ++ regs ∷ [] }

-- an SMC with these registers was answered by the next turn, and did no more than this turn says
pub record TakesTurn (old : Listed) (regs answer : Regs) (new : Listed) : Type 0 where
  pub turn : Turn
  pub next : slice_get old.turns (length old.made) ≡ Some turn
  pub answered : answer ≡ turn.answer
  pub after : new ≡ after_turn old regs turn
