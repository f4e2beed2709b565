use Rattle.std.proofs.Common.{◌<◌, sym, subst}
use Rattle.std.proofs.lemmas.Result.{err_from_is_err_and}
use Rattle.core_machine.specs.Visitor.{Visitor}
use Rattle.kernel_model.specs.Application.{Booted}
use Rattle.trace_player.proofs.Moved.{came-in, goes-in, same-visit, stayed-out}
use Rattle.trace_player.proofs.player.Player.enter.Goals as goal

pub returns-in_err-enter-clause-comes : goal.returns-in_err-enter-clause-comes
returns-in_err-enter-clause-comes c = λ boot at stands.
    let failed = err_from_is_err_and c.from_residual.result c.from_residual.ensures.1 in
    let visitor : Visitor = record { cpu = c.args.cpu; regs = c.registers-regs.result; steps = c.args.steps } in
    let within = subst (λ (on : Booted). c.args.cpu < on.cpus) stands.machine.booted c.requires.lane in
    let visit = same-visit boot at c.args.self.now visitor _ c.args.regs.now stands within c.answer_to.ensures
    c.registers-regs.ensures in
    rw (failed.1, failed.2) (stayed-out boot at _ visitor c.enter.new.self c.args.self.now c.in_err-enter.field-0.0 visit
    (c.in_err-enter.ensures.enters boot at.play stands.machine) stands)

pub returns-clause-comes : goal.returns-clause-comes
returns-clause-comes c = λ boot at stands.
    let visitor : Visitor = record { cpu = c.args.cpu; regs = c.registers-regs.result; steps = c.args.steps } in
    let within = subst (λ (on : Booted). c.args.cpu < on.cpus) stands.machine.booted c.requires.lane in
    let visit = same-visit boot at c.args.self.now visitor _ c.args.regs.now stands within c.answer_to.ensures
    c.registers-regs.ensures in
    came-in boot at _ visitor c.enter.new.self c.args.self.now visit (c.in_ok-enter.ensures.enters boot at.play stands.machine) stands

pub returns-clause-inside : goal.returns-clause-inside
returns-clause-inside c =
    let visitor : Visitor = record { cpu = c.args.cpu; regs = c.registers-regs.result; steps = c.args.steps } in
    let goes = goes-in c.args.self.now.machine c.enter.new.self visitor c.machines_stand.ensures c.turns_are_taken.ensures
    (c.requires.comes c.registers-regs.result) c.in_ok-enter.ensures.enters in
    record {
      few = c.requires.few;
      lane = subst (λ (on : Booted). c.args.cpu < on.cpus) (sym goes.1) c.requires.lane;
      leaves = goes.0;
    }
