use Rattle.std.proofs.Common.{sym, subst}
use Rattle.trace_text.specs.Sound.{IsSoundFill}
use Rattle.trace_bin.specs.Spelling.{fill_record}
use Rattle.trace_bin.proofs.Puts.{put_more}
use Rattle.trace_bin.proofs.writing.put_fills.Goals as goal

pub loop-fill-preserved : goal.loop-fill-preserved
loop-fill-preserved c =
    put_more fill_record c.args.fills.now c.loop-fill.fill-index c.fill-item.result _ _ _ _ c.loop-fill-test.true c.fill-item.is c.loop-fill.invariant c.in_ok-put_fill.ensures

pub put_fill-requires : goal.put_fill-requires
put_fill-requires c =
    subst IsSoundFill (sym c.fill-item.is) (c.requires c.loop-fill.fill-index c.fill-item.result c.loop-fill-test.true)
