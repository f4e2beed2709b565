use Rattle.std.proofs.Common.{sym, subst}
use Rattle.trace_bin.specs.Spelling.{IsCountable, item_record}
use Rattle.trace_bin.proofs.Puts.{put_more}
use Rattle.trace_bin.proofs.writing.put_items.Goals as goal

pub loop-item-preserved : goal.loop-item-preserved
loop-item-preserved c =
    put_more item_record c.args.items.now c.loop-item.item-index c.item-item.result _ _ _ _ c.loop-item-test.true c.item-item.is c.loop-item.invariant c.in_ok-put_item.ensures

pub put_item-requires : goal.put_item-requires
put_item-requires c =
    subst IsCountable (sym c.item-item.is) (c.requires c.loop-item.item-index c.item-item.result c.loop-item-test.true)
