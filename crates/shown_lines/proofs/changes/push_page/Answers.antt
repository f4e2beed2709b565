use Rattle.std.proofs.Common.{◌+◌, ◌*◌, arith}
use Rattle.shown_lines.proofs.Pages.{as_many, block_in}
use Rattle.shown_lines.proofs.Texts.{changes_more}
use Rattle.shown_lines.proofs.changes.push_page.Goals as goal

pub loop-block-init : goal.loop-block-init
loop-block-init c = λ before after start was is text.
    as_many c.args.cpu _ _ before after start c.args.text.now.items (omega arith) text

pub loop-block-preserved : goal.loop-block-preserved
loop-block-preserved c = λ before after start was is text.
    let page = c.args.page in
    let block = c.loop-block.block in
    as_many c.args.cpu (64 * page + block + 1) (64 * page + (block + 1)) before after start c.push_change.new.text.items (omega arith)
    (changes_more c.args.cpu (64 * page + block) before after start c.loop-block.text.items c.push_change.new.text.items
    (c.loop-block.invariant before after start was is text)
    (c.in_ok-push_change.ensures before after
    (block_in before c.args.was.now page block _ _ _ c.loop-block-test.true (omega arith) (omega arith) (omega arith) was)
    (block_in after c.args.is.now page block _ _ _ c.loop-block-test.true (omega arith) (omega arith) (omega arith) is)))

pub returns : goal.returns
returns c = λ before after start was is text.
    as_many c.args.cpu _ _ before after start c.loop-block.text.items (omega arith) (c.loop-block.invariant before after start was is text)
