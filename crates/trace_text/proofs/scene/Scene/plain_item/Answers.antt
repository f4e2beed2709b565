use Rattle.trace_text.proofs.PlainLines.{write_says}
use Rattle.trace_text.proofs.scene.Scene.plain_item.Goals as goal

pub returns : goal.returns
returns c =
    let cpus = c.in_ok-cpus.ensures.read in
    write_says c.args.self.now c.args.line.now c.in_ok-cpus.cpus c.plain_write.result cpus.0 cpus.1 c.plain_write.ensures
