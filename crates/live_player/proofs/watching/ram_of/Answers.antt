use Rattle.std.proofs.Common.{subst, sym}
use Rattle.core_machine.specs.declared.machine.Machine.{Machine}
use Rattle.trace_player.specs.Playing.{HasLane}
use Rattle.live_player.proofs.Watched.{ram_lent}
use Rattle.live_player.proofs.watching.ram_of.Goals as goal

pub ram-requires : goal.ram-requires
ram-requires c = subst (λ (machine : Machine). HasLane machine c.args.cpu) (sym c.machine.ensures) c.requires

pub returns-clause-lane : goal.returns-clause-lane
returns-clause-lane c = λ on lines behind.
    ram_lent on lines c.args.cpu c.args.player.now c.machine.result.now c.ram.result.now c.machine.ensures c.ram.ensures.lane
    behind
