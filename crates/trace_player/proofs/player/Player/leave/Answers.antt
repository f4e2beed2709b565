use Rattle.trace_player.proofs.Moved.{can-tell, went-out}
use Rattle.trace_player.proofs.player.Player.leave.Goals as goal

pub returns-clause-leaves : goal.returns-clause-leaves
returns-clause-leaves c = λ boot at stands.
    went-out boot at (record { cpu = c.args.cpu; regs = c.leave-out.result.regs }) c.leave-out.new.self c.args.self.now
    (c.leave-out.ensures.leaves boot at.play stands.machine) stands

pub returns-clause-told : goal.returns-clause-told
returns-clause-told c =
    can-tell c.args.self.now.machine c.leave-out.new.self c.args.cpu c.leave-out.result.regs c.machines_stand.ensures c.requires
    c.leave-out.ensures.leaves
