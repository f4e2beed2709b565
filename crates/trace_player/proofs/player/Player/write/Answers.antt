-- The machine has the boot that it had.
use Rattle.kernel_state.specs.Meaning.{booted_of}
use Rattle.trace_player.proofs.Moved.{stands-there}
use Rattle.trace_player.proofs.player.Player.write.Goals as goal

pub returns-clause-boot : goal.returns-clause-boot
returns-clause-boot c =
    let somewhere = stands-there c.args.self.now.machine c.machines_stand.ensures in
    (c.write.ensures.written (booted_of c.args.self.now.machine.at_work.core) _ somewhere.1).booted
