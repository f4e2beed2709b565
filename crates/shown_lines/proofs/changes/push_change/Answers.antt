use Rattle.shown_lines.proofs.Texts.{changed_block, unchanged_block}
use Rattle.shown_lines.proofs.changes.push_change.Goals as goal

pub returns-then-eq : goal.returns-then-eq
returns-then-eq c = λ before after there here.
    unchanged_block c.args.cpu c.args.number before after c.args.was.now c.args.is.now c.args.text.now.items there here c.if-eq.ensures

pub returns : goal.returns
returns c = λ before after there here.
    changed_block c.push_block.result c.args.cpu c.args.number before after c.args.was.now c.args.is.now c.args.text.now.items
    c.push_block.new.text.items there here c.if-eq.ensures c.push_block.ensures
