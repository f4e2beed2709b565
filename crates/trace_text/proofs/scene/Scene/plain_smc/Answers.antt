use Rattle.trace_text.proofs.PlainLines.{plain_says}
use Rattle.trace_text.proofs.scene.Scene.plain_smc.Goals as goal

pub returns : goal.returns
returns c =
    let call = c.in_ok-cpu.field-0 in
    let said = c.in_ok-cpu.ensures in
    plain_says c.args.self.now c.args.line.now c.args.cpus call.cpu call.steps call.regs c.requires.booted c.requires.count said.said said.there said.granted c.if-is_inside.ensures
