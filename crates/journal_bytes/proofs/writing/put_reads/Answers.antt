use Rattle.std.proofs.Common.{sym, subst}
use Rattle.journal_bytes.specs.Sound.{IsSoundRead}
use Rattle.journal_bytes.specs.Spelling.{read_bytes}
use Rattle.trace_bin.proofs.Puts.{put_more}
use Rattle.journal_bytes.proofs.writing.put_reads.Goals as goal

pub loop-read-preserved : goal.loop-read-preserved
loop-read-preserved c =
    put_more read_bytes c.args.reads.now c.loop-read.read-index c.read-item.result _ _ _ _ c.loop-read-test.true c.read-item.is c.loop-read.invariant c.in_ok-put_read.ensures

pub put_read-requires : goal.put_read-requires
put_read-requires c =
    subst IsSoundRead (sym c.read-item.is) (c.requires c.loop-read.read-index c.read-item.result c.loop-read-test.true)
