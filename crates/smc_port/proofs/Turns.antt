-- What a port that answers by a list does at a turn is an SMC.
use Rattle.std.proofs.Common.{◌≡◌, ℕ, List, [], ◌∷◌, ◌++◌, length, Some, refl, ap}
use Rattle.std.specs.Prelude.{slice_get}
use Rattle.std.specs.List.{AllByRecursion}
use Rattle.ns_ram.specs.Writes.{IsWriteOfRam, lane_after}
use Rattle.smc_abi.specs.declared.regs.Regs.{Regs}
use Rattle.smc_port.specs.declared.turn.Turn.{Turn}
use Rattle.smc_port.specs.ListedPort.{Listed, smc_at, smcs_at, smcs_made}
use Rattle.smc_port.specs.Smc.{Makes}

same : {A : Type 0} {x y : A} → Some x ≡ Some y → x ≡ y
same e = cc

pub smcs_at-append : (made : List Regs) (turns : List Turn) (regs : Regs) (turn : Turn) → slice_get turns (length made) ≡ Some turn →
    smcs_at (made ++ regs ∷ []) turns ≡ smcs_at made turns ++ smc_at regs turn ∷ []
smcs_at-append [] [] regs turn there = absurd cc
smcs_at-append [] (next ∷ turns) regs turn there = ap (λ t. smc_at regs t ∷ []) (same there)
smcs_at-append (before ∷ made) [] regs turn there = absurd cc
smcs_at-append (before ∷ made) (next ∷ turns) regs turn there = ap (λ rest. smc_at before next ∷ rest) (smcs_at-append made turns regs turn there)

pub takes_turn : (port : Listed) (regs : Regs) (turn : Turn) (new : List ℕ) → slice_get port.turns (length port.made) ≡ Some turn →
    AllByRecursion IsWriteOfRam turn.writes → new ≡ lane_after port.ram turn.writes →
    Makes port.ram (smcs_made port) regs turn.answer new (smcs_at (port.made ++ regs ∷ []) port.turns)
takes_turn port regs turn new next inside written =
    record {
      smc = smc_at regs turn;
      with = refl;
      answered = refl;
      last = smcs_at-append port.made port.turns regs turn next;
      changes = record { read = tt; inside = inside; written = written };
    }
