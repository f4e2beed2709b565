use Rattle.shown_lines.proofs.Tables.{kernel_told}
use Rattle.shown_lines.proofs.shown.push_told.Goals as goal

pub returns : goal.returns
returns c =
    kernel_told c.push_parts.result c.args.core.now.parts c.args.question.now c.args.text.now.items c.push_parts.new.text.items
    c.push_parts.ensures c.args.core.now.replay
