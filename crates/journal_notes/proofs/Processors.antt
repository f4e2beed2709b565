-- How many processors there can be.
use Rattle.std.proofs.Common.{◌<◌, arith}
use Rattle.std.proofs.Math.Logic.{∥∥₁_elim}
use Rattle.std.proofs.Props.{props}
use Rattle.journal_replay.proofs.Arrived.{cpu_there}
use Rattle.journal_replay.specs.Visiting.{coming_of}
use Rattle.journal_replay.specs.Visitor.{Visitor}
use Rattle.kernel_state.specs.Entering.{CanEnter}
use Rattle.kernel_state.specs.Replay.{Replays}
use Rattle.kernel_state.specs.declared.kernel_core.Core.{Core}

-- there are eight processors at most
pub few_processors : (core : Core) (visitor : Visitor) → CanEnter core (coming_of visitor) → visitor.cpu < 8
few_processors core visitor can =
    let there = cpu_there core.parts visitor.cpu core.replay can.outside in
    ∥∥₁_elim core.replay (Prim.hlevel props) (λ (so : Replays core.parts).
    let few = so.is_boot.few_processors in
    let cpus = so.stands.cpus in
    omega (arith, there, few, cpus))
