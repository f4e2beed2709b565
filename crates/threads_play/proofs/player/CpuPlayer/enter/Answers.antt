-- The work of the entry can go out by its pass, and the entry is the next act of the processor's part.
use Rattle.std.proofs.lemmas.Result.{err_from_is_err_and}
use Rattle.core_lock.specs.Passes.{number}
use Rattle.normal_cpus.specs.Entering.{coming}
use Rattle.normal_cpus.specs.Sharing.{boot_of}
use Rattle.threads_play.proofs.Moves.{came_in, stays_out}
use Rattle.threads_play.proofs.Passes.{ready_inside, seen_at_entry}
use Rattle.threads_play.proofs.player.CpuPlayer.enter.Goals as goal

pub returns-in_err-work-clause-comes : goal.returns-in_err-work-clause-comes
returns-in_err-work-clause-comes g c items lane acts was =
    let told = err_from_is_err_and c.from_residual.result c.from_residual.ensures.1 in
    rw (told.1, told.2) (stays_out (boot_of c.args.shared.now) items lane acts c.args.self.now c.enter.new.pass
    c.requires.on.own.0.own_entries c.enter.ensures.same c.args.steps c.args.regs.now c.registers-given.result
    c.registers-given.ensures was _ c.in_err-work.ensures.comes)

pub returns-clause-on : goal.returns-clause-on
returns-clause-on g c =
    let boot = boot_of c.args.shared.now in
    let came = coming (number c.args.self.now.pass) c.registers-given.result c.args.steps in
    record {
      on = record {
        own = c.enter.ensures.own;
        few = rw c.enter.ensures.same c.requires.on.few;
        ready = ready_inside boot c.args.self.now.pass c.enter.new.pass came c.args.self.now.lane c.in_ok-work.work c.put.new.kept
            c.works_go_out.ensures c.put.ensures c.enter.ensures.same c.in_ok-work.ensures.comes;
      };
      same = c.enter.ensures.same;
      begins = seen_at_entry boot c.args.self.now.pass c.enter.new.pass came c.args.self.now.lane c.enter.result c.enter.ensures.comes;
    }

pub returns-clause-comes : goal.returns-clause-comes
returns-clause-comes g c items lane acts was =
    came_in (boot_of c.args.shared.now) items lane acts c.args.self.now c.enter.new.pass
    c.requires.on.own.0.own_entries c.enter.ensures.same c.args.steps c.args.regs.now c.registers-given.result
    c.registers-given.ensures was c.in_ok-work.work c.put.new.kept c.put.ensures c.in_ok-work.ensures.comes
